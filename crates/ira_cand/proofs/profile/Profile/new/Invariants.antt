use Rattle.std.proofs.Common.{◌≡◌, ◌++◌, All, length, replicate}
use Rattle.ira_node.specs.NodeState.{first_state}
use Rattle.ira_cand.specs.Profile.{HasKind, WalkedTo, stage, stages_in}
use Rattle.ira_cand.proofs.profile.Profile.new.Given as goal

abbrev pub invariant-loop-event : goal.invariant-loop-event
invariant-loop-event g l =
    WalkedTo l.log.nodes (first_state l.log.initiator) l.log.events
    (stages_in l.spans.items ++ replicate l.count (stage l.state)) l.state l.events
    × All (HasKind l.kinds.items) l.spans.items
    × (l.stage ≡ stage l.state)

abbrev pub decreases-loop-event : goal.decreases-loop-event
decreases-loop-event g l = length l.events
