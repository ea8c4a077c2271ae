use Rattle.std.proofs.Common.{◌≡◌, ◌+◌, ◌≤◌, ◌<◌, ℕ, zero, suc, Bool, false, List, [], ◌∷◌, Some, drop, ap, arith}
use Rattle.std.proofs.Common.{length, refl, ◌++◌, subst, sym}
use Rattle.std.specs.Prelude.{slice_get, slice_index_or}
use Rattle.std.specs.List.{flat_map, zip}
use Rattle.std.proofs.lemmas.Result.{err_from_is_err_and}
use Rattle.std.proofs.lemmas.List.{drop_all}
use Rattle.std.proofs.lemmas.Slice.Zip.{length-zip}
use Rattle.ira_event.specs.Log.{Log}
use Rattle.ira_event.proofs.Writing.{HasWritten-more, HasWritten-stops}
use Rattle.ira_ring_setup.proofs.EndLines.{drop-zip, next-text, HasWritten-whole}
use Rattle.ira_view_show.proofs.Lines.{both_at}
use Rattle.ira_view.specs.MendedLines.{mended_line, mended_lines}
use Rattle.ira_view.proofs.mended_lines.write_mended.Goals as goal

-- what is said at a place
said_at : (lost : List Bool) (i : ℕ) (d : Bool) → i < length lost → slice_get lost i ≡ Some (slice_index_or lost i d)
said_at [] i d l = absurd (omega arith)
said_at (b ∷ lost) zero d l = refl
said_at (b ∷ lost) (suc i) d l = said_at lost i d (omega arith)

-- the lines from a place on begin with the one there
next_line : (logs mended : List Log) (lost : List Bool) (i : ℕ) (d : Bool) (log kept : Log)
    → slice_get logs i ≡ Some log → slice_get mended i ≡ Some kept → i < length lost
    → mended_line ((log, kept), slice_index_or lost i d)
    ++ flat_map mended_line (drop (i + 1) (zip (zip logs mended) lost))
    ≡ flat_map mended_line (drop i (zip (zip logs mended) lost))
next_line logs mended lost i d log kept at at' l =
    let first = drop-zip (zip logs mended) lost i (log, kept) (slice_index_or lost i d)
    (both_at logs mended i log kept at at') (said_at lost i d l) in
    next-text mended_line (mended_line ((log, kept), slice_index_or lost i d)) ((log, kept), slice_index_or lost i d)
    (drop i (zip (zip logs mended) lost)) (drop (i + 1) (zip (zip logs mended) lost)) refl first

pub returns-in_err-write : goal.returns-in_err-write
returns-in_err-write g c =
    let logs = c.args.logs.now in
    let mended = c.args.mended.now in
    let lost = c.args.lost.now in
    let i = c.loop-place.place in
    let p = err_from_is_err_and c.from_residual.result c.from_residual.ensures.1 in
    let within : i < length lost = omega arith in
    let line : c.mended_line.result
    ≡ mended_line ((c.log.result.now, c.log-in-loop-place.result.now), slice_index_or lost i false) =
    rw c.from.ensures at c.mended_line.ensures in
    let next = subst (λ t. t ++ flat_map mended_line (drop (i + 1) (zip (zip logs mended) lost))
    ≡ flat_map mended_line (drop i (zip (zip logs mended) lost))) (sym line)
    (next_line logs mended lost i false c.log.result.now
    c.log-in-loop-place.result.now c.log.ensures.value c.log-in-loop-place.ensures.value within) in
    HasWritten-stops _ _ p.1 (mended_lines logs mended lost)
    (flat_map mended_line (drop i (zip (zip logs mended) lost)))
    c.mended_line.result (flat_map mended_line (drop (i + 1) (zip (zip logs mended) lost))) _ _ _
    c.loop-place.invariant next c.in_err-write.ensures

pub loop-place-preserved : goal.loop-place-preserved
loop-place-preserved g c =
    let logs = c.args.logs.now in
    let mended = c.args.mended.now in
    let lost = c.args.lost.now in
    let i = c.loop-place.place in
    let within : i < length lost = omega arith in
    let line : c.mended_line.result
    ≡ mended_line ((c.log.result.now, c.log-in-loop-place.result.now), slice_index_or lost i false) =
    rw c.from.ensures at c.mended_line.ensures in
    let next = subst (λ t. t ++ flat_map mended_line (drop (i + 1) (zip (zip logs mended) lost))
    ≡ flat_map mended_line (drop i (zip (zip logs mended) lost))) (sym line)
    (next_line logs mended lost i false c.log.result.now
    c.log-in-loop-place.result.now c.log.ensures.value c.log-in-loop-place.ensures.value within) in
    HasWritten-more (mended_lines logs mended lost) (flat_map mended_line (drop i (zip (zip logs mended) lost)))
    c.mended_line.result (flat_map mended_line (drop (i + 1) (zip (zip logs mended) lost))) _ _ _
    c.loop-place.invariant next c.in_ok-write.ensures

pub returns : goal.returns
returns g c =
    let logs = c.args.logs.now in
    let mended = c.args.mended.now in
    let lost = c.args.lost.now in
    let parts = zip (zip logs mended) lost in
    let short : length parts ≤ c.loop-place.place =
    omega (arith, length-zip (zip logs mended) lost, length-zip logs mended) in
    let left = flat_map mended_line (drop c.loop-place.place parts) in
    HasWritten-whole (mended_lines logs mended lost) left _ _
    (ap (λ ps. flat_map mended_line ps) (drop_all c.loop-place.place parts short))
    c.loop-place.invariant
