use Rattle.std.proofs.Common.{ℕ, ◌<◌}
use Rattle.ira_view_moment.specs.Moment.{LeadsAt}
use Rattle.ira_view_election.proofs.at_moment.has_leader.Given as goal

abbrev pub invariant-loop-node : goal.invariant-loop-node
invariant-loop-node g l = (i : ℕ) → i < l.node → ¬ (LeadsAt l.moment i)
