use Rattle.std.proofs.Common.{◌≡◌, ◌+◌, ◌++◌, ◌∷◌, [], ap, arith, length, List, refl, rules, ℕ}
use Rattle.std.proofs.lemmas.List.{length-append, length-drop}
use Rattle.std.specs.Borrow.{Bor}
use Rattle.std.specs.Vec.Iter.{into_iter_items}
use Rattle.std.proofs.lemmas.Slice.Zip.{AllZip-long}
use Rattle.ira_main.proofs.Folders.{told_more, told_whole, zipped_each, zipped_next}
use Rattle.ira_main.specs.Each.{IsTold}
use Rattle.ira_main.specs.declared.folder_answer.ToldFolder.{ToldFolder}
use Rattle.ira_main.proofs.judge_each.tell_at_once.Goals as goal

pub loop-told-init : goal.loop-told-init
loop-told-init g c =
    let reads = g.F.TextSource.reads in
    let asked = c.args.asked in
    let folders = c.args.folders.now in
    let first = c.in_ok-first.first.items in
    let rest : into_iter_items c.into_iter-told-iterator.result ≡ first =
    c.into_iter-told-iterator.ensures.into_iter_gives.0 in
    let Told = IsTold g.row.A.Denot reads asked.form asked.expected.now asked.detail asked.is_summed c.args.shelf.now in
    let each = zipped_each (λ (folder : Bor (List ℕ)) (it : ToldFolder g.row.A.Denot). Told folder it.answer it.text.bytes)
    folders first (search rules) (λ i d lt. (c.in_ok-first.ensures.each i d (omega (arith, lt))).1.met) in
    record {
      may_go_on = tt;
      ends = tt;
      count = search rules;
      left = rw (rest, c.in_ok-answers.ensures.items) each;
      told = rw (c.in_ok-answers.ensures.items, c.new-text.ensures) refl;
    }

pub settled-requires : goal.settled-requires
settled-requires g c =
    let left = rw c.in-Some.ensures.steps.0 at c.loop-told.invariant.left in
    let next = zipped_next _ c.args.folders.now (length c.loop-told.answers.items) _ _ left in
    let here : c.len.result ≡ length c.loop-told.answers.items = omega arith in
    rw here (next.1 _)

pub loop-told-preserved : goal.loop-told-preserved
loop-told-preserved g c =
    let asked = c.args.asked in
    let folders = c.args.folders.now in
    let answers = c.loop-told.answers.items in
    let told = c.in_ok-told.told in
    let Told = IsTold g.row.A.Denot g.F.TextSource.reads asked.form asked.expected.now asked.detail asked.is_summed c.args.shelf.now in
    let left = rw c.in-Some.ensures.steps.0 at c.loop-told.invariant.left in
    let next = zipped_next _ folders (length answers) _ _ left in
    let here : c.len.result ≡ length answers = omega arith in
    let longer : length (answers ++ told.answer ∷ []) ≡ length answers + 1 = length-append answers (told.answer ∷ []) in
    let more = told_more Told folders (length answers) _ answers told.answer c.loop-told.text.bytes told.text.bytes next.0
    c.loop-told.invariant.told (rw here at c.in_ok-told.ensures) in
    record {
      may_go_on = tt;
      ends = tt;
      count = omega (arith, ap length c.in-Some.ensures.steps.0, c.in-Some.ensures.steps.1);
      left = rw (c.in_ok-push.ensures.items, longer) next.2;
      told = rw (c.in_ok-push.ensures.items, longer, c.in-Ok.ensures.took, c.bytes.ensures) more;
    }

pub returns : goal.returns
returns g c =
    let answers = c.loop-told.answers.items in
    let folders = c.args.folders.now in
    told_whole _ _ _ _ _ c.loop-told.invariant.told (omega (
      arith,
      c.in-None.ensures.steps.0,
      c.loop-told.invariant.count,
      AllZip-long _ _ _ c.loop-told.invariant.left,
      length-drop (length answers) folders,
    ))
