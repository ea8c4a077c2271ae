use Rattle.ira_view_page.specs.Page.{AddedSome}
use Rattle.ira_commands.proofs.decided_line.add_asked.Given as goal

abbrev pub invariant-loop-n : goal.invariant-loop-n
invariant-loop-n g l = AddedSome l.initial.page l.page
