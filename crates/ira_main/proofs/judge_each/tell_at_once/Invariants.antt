use Rattle.std.proofs.Common.{◌≡◌, IfOk, drop, length, take}
use Rattle.std.specs.List.{AllZip}
use Rattle.std.specs.Vec.Iter.{into_iter_items, into_iter_len}
use Rattle.ira_main.specs.Each.{AreTold, IsTold}
use Rattle.ira_main.proofs.judge_each.tell_at_once.Given as goal

abbrev pub invariant-loop-told : goal.invariant-loop-told
invariant-loop-told g l = record {
  may_go_on : (goal.iterator-loop-told g).can_next l.told-iterator;
  ends : (goal.iterator-loop-told g).is_finite l.told-iterator;
  count : into_iter_len l.told-iterator ≡ length (into_iter_items l.told-iterator);
  left : AllZip (λ folder first. IfOk first (λ it. IsTold g.row.A.Denot g.F.TextSource.reads l.asked.form
      l.asked.expected.now l.asked.detail l.asked.is_summed l.shelf folder it.answer it.text.bytes)) (drop (length l.answers.items) l.folders)
      (into_iter_items l.told-iterator);
  told : AreTold (IsTold g.row.A.Denot g.F.TextSource.reads l.asked.form l.asked.expected.now l.asked.detail l.asked.is_summed l.shelf)
      (take (length l.answers.items) l.folders) l.answers.items l.text.bytes;
}
