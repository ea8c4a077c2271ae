use Rattle.std.proofs.Common.{◌≡◌, ◌+◌, ◌≤◌, ◌++◌, length}
use Rattle.std.specs.Prelude.{vec_len, vec_capacity}
use Rattle.std.specs.Vec.Iter.{into_iter_items, into_iter_len}
use Rattle.ira_ring_setup.proofs.Collecting.{parts_of}
use Rattle.ira_ring_setup.proofs.collector.Collector.finish.Given as goal

abbrev pub invariant-loop-part : goal.invariant-loop-part
invariant-loop-part g l = record {
  may_go_on : (goal.iterator-loop-part g).can_next l.part-iterator;
  ends : (goal.iterator-loop-part g).is_finite l.part-iterator;
  logs_room : vec_len l.logs + into_iter_len l.part-iterator ≤ vec_capacity l.logs;
  ends_room : vec_len l.ends + into_iter_len l.part-iterator ≤ vec_capacity l.ends;
  left : into_iter_len l.part-iterator ≡ length (into_iter_items l.part-iterator);
  same : length l.logs.items ≡ length l.ends.items;
  parts : l.fn.self ≡ parts_of l.logs.items l.ends.items ++ into_iter_items l.part-iterator;
}
