use Rattle.std.proofs.Common.{◌≡◌, ◌++◌, length}
use Rattle.std.specs.Vec.Iter.{into_iter_items, into_iter_len}
use Rattle.ira_event.specs.Logs.{AreLogs}
use Rattle.ira_order.proofs.FaultyEvents.{StopsSoFar}
use Rattle.ira_audit.proofs.replayed_log.split_replayed.Given as goal

abbrev pub invariant-loop-read : goal.invariant-loop-read
invariant-loop-read g l = record {
  may_go_on : (goal.iterator-loop-read g).can_next l.read-iterator;
  ends : (goal.iterator-loop-read g).is_finite l.read-iterator;
  left : into_iter_len l.read-iterator ≡ length (into_iter_items l.read-iterator);
  parts : l.logs.items ++ into_iter_items l.read-iterator ≡ l.fn.replayed.items;
  stops : AreLogs l.fn.replayed.items
      → StopsSoFar l.fn.replayed.items l.faulty_events.items (length l.logs.items);
}
