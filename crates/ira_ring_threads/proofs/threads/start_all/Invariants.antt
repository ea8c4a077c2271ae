use Rattle.std.proofs.Common.{◌≡◌, ◌≤◌, ◌+◌, ◌++◌, map}
use Rattle.std.specs.VecDeque.{deque_len, deque_capacity}
use Rattle.ira_links.specs.LinkEnd.{LinkName}
use Rattle.ira_ring_threads.specs.NodeTask.{AreTasksOfPlaces}
use Rattle.ira_ring_threads.specs.TaskPromise.{promise_of}
use Rattle.ira_ring_threads.proofs.threads.start_all.Given as goal

abbrev pub invariant-loop-task : goal.invariant-loop-task
invariant-loop-task g l = record {
  promises : l.started_nodes.items ++ map (promise_of l.setup) l.tasks.items
      ≡ map (promise_of l.setup) l.initial.tasks.items;
  seated : (a : LinkName) × (b : LinkName)
      × AreTasksOfPlaces l.setup.cap (deque_len l.started_nodes) a l.tasks.items l.setup.nodes b;
  count : deque_len l.started_nodes + deque_len l.tasks ≡ l.setup.nodes;
  room : l.setup.nodes ≤ deque_capacity l.started_nodes;
}

abbrev pub decreases-loop-task : goal.decreases-loop-task
decreases-loop-task g l = deque_len l.tasks
