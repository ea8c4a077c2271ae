use Rattle.std.proofs.Common.{◌≡◌, ◌≤◌, drop, length}
use Rattle.std.specs.Vec.Iter.{into_iter_items, into_iter_len}
use Rattle.ira_main.proofs.Shares.{IsGathering, IsShare}
use Rattle.ira_main.proofs.read_files.read_logs.Given as goal

abbrev pub invariant-loop-share : goal.invariant-loop-share
invariant-loop-share g l = record {
  may_go_on : (goal.iterator-loop-share g).can_next l.share-iterator;
  ends : (goal.iterator-loop-share g).is_finite l.share-iterator;
  left : into_iter_len l.share-iterator ≡ length (into_iter_items l.share-iterator);
  within : l.done ≤ length l.names;
  gathering : IsGathering g.F.TextSource.reads l.keep (IsShare g.F.TextSource.reads l.shelf l.keep) l.size l.names
      (drop l.done l.names) l.shelf l.logs (into_iter_items l.share-iterator);
}
