use Rattle.std.proofs.Common.{◌≡◌, ◌∙◌, ◌<◌, [], ◌∷◌, ◌++◌, append_assoc, ap, arith, length, length-append, sym}
use Rattle.std.specs.Vec.Iter.{into_iter_items}
use Rattle.ira_main_files.specs.Shelf.{writing_by}
use Rattle.ira_main.proofs.LogFiles.{named_more}
use Rattle.ira_main.proofs.log_files.keep_files.Goals as goal

pub loop-file-preserved : goal.loop-file-preserved
loop-file-preserved g c =
    let before = c.loop-file.invariant in
    let writes = writing_by g.F.Shelf.creates g.F.Shelf.closes g.F.Shelf.keeps g.F.Out.Sink.state in
    let file = c.in-Some.file in
    let others = into_iter_items c.next.new.self in
    let rest : into_iter_items c.loop-file.file-iterator ≡ file ∷ others = c.in-Some.ensures.steps.0 in
    let parts = ap (λ xs. before.front ++ xs) rest in
    let few : length before.front < 255 =
    omega (arith, simp length-append at (ap length (before.parts)), ap length rest, c.requires) in
    record {
      may_go_on = tt;
      ends = tt;
      front = before.front ++ file ∷ [];
      parts = append_assoc before.front (file ∷ []) others ∙ sym parts ∙ before.parts;
      at = omega (arith, before.at, few, length-append before.front (file ∷ []));
      named = named_more writes before.front file c.args.shelf.now c.loop-file.shelf c.keep.new.self before.named
          c.in_default.ensures.kept;
    }
