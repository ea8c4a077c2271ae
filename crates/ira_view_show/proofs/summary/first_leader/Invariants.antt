use Rattle.std.proofs.Common.{◌≡◌, drop}
use Rattle.ira_view_show.specs.Summary.{leader_from}
use Rattle.ira_view_show.proofs.summary.first_leader.Given as goal

abbrev pub invariant-loop-place : goal.invariant-loop-place
invariant-loop-place g l = leader_from 0 l.moment.nodes ≡ leader_from l.place (drop l.place l.moment.nodes)
