use Rattle.ira_view_page.specs.Page.{Added, spaces}
use Rattle.ira_view_page.proofs.page.Page.spaces.Given as goal

abbrev pub invariant-loop : goal.invariant-loop
invariant-loop g l = Added l.initial.self (spaces l.counter) l.self
