use Rattle.std.proofs.Common.{◌≡◌, ◌+◌, ◌≤◌, length, Ok}
use Rattle.ira_event.specs.Limits.{MAX_RECORDS}
use Rattle.ira_node.specs.NodeState.{first_state}
use Rattle.ira_replay.specs.StatesLeft.{replayed}
use Rattle.ira_replay.proofs.replay_log.replay.Given as goal

abbrev pub invariant-loop-event : goal.invariant-loop-event
invariant-loop-event g l = record {
  room : l.position + length l.event-iterator ≤ MAX_RECORDS;
  ahead : replayed l.log.nodes l.position (Ok l.state) l.event-iterator
      ≡ replayed l.log.nodes 0 (Ok (first_state l.log.initiator)) l.log.events;
}
