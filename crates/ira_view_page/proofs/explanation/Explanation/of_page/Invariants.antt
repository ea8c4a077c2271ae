use Rattle.ira_view_page.specs.Page.{AddedSome}
use Rattle.ira_view_page.proofs.explanation.Explanation.of_page.Given as goal

abbrev pub invariant-loop-hint : goal.invariant-loop-hint
invariant-loop-hint g l = AddedSome l.initial.page l.page
