use Rattle.ira_order.proofs.Filling.{AreFirst}
use Rattle.ira_order.proofs.stamps.Stamps.start.Given as goal

abbrev pub invariant-loop-place : goal.invariant-loop-place
invariant-loop-place g l = AreFirst l.logs l.place l.nodes.items
