use Rattle.std.proofs.Common.{replicate}
use Rattle.ira_view_page.specs.Page.{Added}
use Rattle.ira_view_page.proofs.page.Page.carets.Given as goal

abbrev pub invariant-loop : goal.invariant-loop
invariant-loop g l = Added l.initial.self (replicate l.counter 94) l.self
