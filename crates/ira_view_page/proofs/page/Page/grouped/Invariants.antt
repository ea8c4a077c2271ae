use Rattle.ira_view_page.specs.Page.{AddedSome}
use Rattle.ira_view_page.proofs.page.Page.grouped.Given as goal

abbrev pub invariant-loop-i : goal.invariant-loop-i
invariant-loop-i g l = AddedSome l.initial.self l.self
