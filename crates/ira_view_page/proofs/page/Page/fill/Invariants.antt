use Rattle.ira_view_page.specs.Page.{AddedSome}
use Rattle.ira_view_page.proofs.page.Page.fill.Given as goal

abbrev pub invariant-loop-word : goal.invariant-loop-word
invariant-loop-word g l = AddedSome l.initial.self l.self
