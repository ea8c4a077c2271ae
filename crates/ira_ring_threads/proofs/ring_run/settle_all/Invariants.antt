use Rattle.std.proofs.Common.{◌≡◌, length}
use Rattle.std.specs.VecDeque.{deque_len}
use Rattle.ira_ring_threads.proofs.SettledLinks.{Settling}
use Rattle.ira_ring_threads.proofs.ring_run.settle_all.Given as goal

abbrev pub invariant-loop-finished : goal.invariant-loop-finished
invariant-loop-finished g l = record {
  number : length l.collector ≡ length l.fn.collector;
  settling : Settling (length l.fn.collector) l.fn.finished_nodes.items l.finished_nodes.items l.first_input l.last
      l.collector;
}

abbrev pub decreases-loop-finished : goal.decreases-loop-finished
decreases-loop-finished g l = deque_len l.finished_nodes
