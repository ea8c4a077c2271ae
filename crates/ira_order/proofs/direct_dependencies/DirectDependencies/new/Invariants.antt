use Rattle.ira_order.proofs.Dependencies.{AreFirst}
use Rattle.ira_order.proofs.direct_dependencies.DirectDependencies.new.Given as goal

abbrev pub invariant-loop-place : goal.invariant-loop-place
invariant-loop-place g l = AreFirst l.logs l.place l.nodes.items
