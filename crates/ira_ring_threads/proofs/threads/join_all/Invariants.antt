use Rattle.std.proofs.Common.{◌≡◌, ◌≤◌, ◌+◌, ◌++◌, List, true}
use Rattle.std.specs.VecDeque.{deque_len, deque_capacity}
use Rattle.ira_ring_threads.specs.TaskPromise.{TaskPromise}
use Rattle.ira_ring_threads.specs.FinishedNode.{KeepPromises}
use Rattle.ira_ring_threads.proofs.threads.join_all.Given as goal

abbrev pub invariant-loop-started_node : goal.invariant-loop-started_node
invariant-loop-started_node g l = record {
  finished : l.all ≡ true → (past : List TaskPromise) × (past ++ l.started_nodes.items ≡ l.initial.started_nodes.items)
      × KeepPromises past l.finished_nodes.items;
  count : deque_len l.finished_nodes + deque_len l.started_nodes ≤ deque_len l.initial.started_nodes;
  room : deque_len l.initial.started_nodes ≤ deque_capacity l.finished_nodes;
}

abbrev pub decreases-loop-started_node : goal.decreases-loop-started_node
decreases-loop-started_node g l = deque_len l.started_nodes
