use Rattle.std.proofs.Common.{◌≡◌, ℕ, Some, arith, length, refl, subst}
use Rattle.std.specs.Prelude.{◌<◌, slice_get, slice_index_or}
use Rattle.std.proofs.lemmas.Option.{slice_get-get_or, slice_get_read}
use Rattle.ira_view_explain.specs.HeadsTold.{IsHeadTold}
use Rattle.ira_view_page.proofs.ForEach.{none_so_far, one_more}
use Rattle.ira_view_explain.proofs.heads_finding.HeadsFinding.evidence.Goals as goal

pub loop-file-init : goal.loop-file-init
loop-file-init g c = rw c.in_ok-told.ensures.items (none_so_far IsHeadTold c.args.files.now)

pub loop-file-preserved : goal.loop-file-preserved
loop-file-preserved g c =
    let files = c.args.files.now in
    let heads = c.args.self.now.heads.items in
    let i = c.loop-file.file-index in
    let there = slice_get-get_or files i _ c.loop-file-test.true in
    let number : c.len-log.result ≡ i = omega (arith, c.len-log.ensures, c.loop-file.invariant.count) in
    let within : i < length heads = omega (arith, c.loop-file-test.true, c.requires.count) in
    let h = c.index-head.result.now in
    let read = subst (λ (k : ℕ). h ≡ slice_index_or heads k h) number c.index-head.ensures in
    let head : slice_get heads i ≡ Some c.index-head.result.now =
    slice_get_read heads (length heads) i c.index-head.result.now refl within read in
    let begins = c.requires.each i _ _ there head in
    one_more IsHeadTold files i c.loop-file.told.items _ _ _ there c.loop-file.invariant (record {
      head = c.index-head.result.now;
      rest = begins.0;
      begins = begins.1;
      row = _;
      is_row = refl;
      number_is = number;
      name_is = c.in_ok-from_str.ensures.ok;
      version_is = refl;
      nodes_is = c.get.ensures.value;
      place_is = refl;
    }) c.in_ok-push.ensures.items
