use Rattle.ira_view_page.specs.Page.{AddedSome}
use Rattle.ira_view_explain_question.proofs.moment_lines.print_loads.Given as goal

abbrev pub invariant-loop-link : goal.invariant-loop-link
invariant-loop-link g l = AddedSome l.initial.page l.page

abbrev pub invariant-loop-load : goal.invariant-loop-load
invariant-loop-load g l = AddedSome l.initial.page l.page
