use Rattle.std.proofs.Common.{◌≡◌, ◌≤◌}
use Rattle.std.specs.List.{All}
use Rattle.ira_node.specs.NodeState.{first_state}
use Rattle.ira_ring_setup.specs.Terms.{YieldsBelow}
use Rattle.ira_ring_threads.specs.Recorder.{AreOfOneNode}
use Rattle.ira_ring_threads.proofs.FramesOfLongerLogs.{SoFar}
use Rattle.ira_ring_threads.proofs.node_thread.turns.Given as goal

abbrev pub invariant-loop : goal.invariant-loop
invariant-loop g l = record {
  links : (l.input.link ≡ l.initial.input.link) × (l.output.link ≡ l.initial.output.link);
  node : AreOfOneNode l.node.log l.initial.node.log;
  cap : l.node.cap ≡ l.initial.node.cap;
  so_far : SoFar l.node.log l.initial.output.frames l.output.frames l.initial.input.frames l.input.frames l.draws
      l.left;
  yields : YieldsBelow l.terms l.node.log.nodes (first_state l.node.log.initiator) l.node.log.events;
  ids : All (λ d. (1 ≤ d) × (d ≤ l.initial.node.log.nodes)) l.left;
}
