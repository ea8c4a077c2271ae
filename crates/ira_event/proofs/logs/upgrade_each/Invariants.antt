use Rattle.std.proofs.Common.{◌≡◌, ◌++◌, length, map}
use Rattle.std.specs.Vec.Iter.{into_iter_items, into_iter_len}
use Rattle.ira_event.specs.Upgrade.{upgraded}
use Rattle.ira_event.proofs.logs.upgrade_each.Given as goal

abbrev pub invariant-loop-log : goal.invariant-loop-log
invariant-loop-log g l = record {
  may_go_on : (goal.iterator-loop-log g).can_next l.log-iterator;
  ends : (goal.iterator-loop-log g).is_finite l.log-iterator;
  left : into_iter_len l.log-iterator ≡ length (into_iter_items l.log-iterator);
  parts : l.news.items ++ map upgraded (into_iter_items l.log-iterator) ≡ map upgraded l.fn.logs.items;
}
