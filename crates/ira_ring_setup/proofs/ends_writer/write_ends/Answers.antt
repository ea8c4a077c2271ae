use Rattle.std.proofs.Common.{◌≡◌, ℕ, ◌+◌, ◌<◌, ◌≤◌, List, Some, drop, sym, ap, ◌∙◌, arith, length}
use Rattle.std.specs.Prelude.{slice_get, slice_index_or}
use Rattle.std.specs.List.{flat_map, zip}
use Rattle.std.proofs.lemmas.Result.{err_from_is_err_and}
use Rattle.std.proofs.lemmas.List.{drop_all}
use Rattle.std.proofs.lemmas.Option.{slice_get-get_or}
use Rattle.std.proofs.lemmas.Slice.Zip.{length-zip}
use Rattle.ira_event.proofs.Writing.{HasWritten-more, HasWritten-stops}
use Rattle.ira_ring_setup.specs.EndsWriter.{end_text, ends_text}
use Rattle.ira_ring_setup.specs.declared.node_end.NodeEnd.{NodeEnd}
use Rattle.ira_ring_setup.specs.declared.node_end.NodeEnd.TheVariants.{Leader}
use Rattle.ira_ring_setup.proofs.EndLines.{drop-zip, next-text, HasWritten-whole}
use Rattle.ira_ring_setup.proofs.ends_writer.write_ends.Goals as goal

-- the end that is read
end-at : (ends read : List NodeEnd) (i at : ℕ) → i < length ends → read ≡ ends → at ≡ i
    → slice_get ends i ≡ Some (slice_index_or read at Leader)
end-at ends read i at within same place =
    slice_get-get_or ends i Leader within
    ∙ ap Some (ap (λ k. slice_index_or ends k Leader) (sym place)
    ∙ ap (λ xs. slice_index_or xs at Leader) (sym same))

pub returns-in_err-write : goal.returns-in_err-write
returns-in_err-write g c =
    let p = err_from_is_err_and c.from_residual.result c.from_residual.ensures.1 in
    let run = c.args.run.now in
    let i = c.loop-i.i in
    let end = slice_index_or c.ends.result.now c.from.result Leader in
    let at_log : slice_get run.logs i ≡ Some c.log.result.now = cc in
    let size = ap length c.logs.ensures.value in
    let within : i < length run.ends = omega (arith, c.ends.ensures.valid.ends) in
    let at_end = end-at run.ends c.ends.result.now i c.from.result within c.ends.ensures.value c.from.ensures in
    let next = next-text end_text c.end_line.result (
      c.log.result.now,
      end,
    ) (drop i (zip run.logs run.ends)) (drop (i + 1) (zip run.logs run.ends)) c.end_line.ensures
    (drop-zip run.logs run.ends i c.log.result.now end at_log at_end) in
    HasWritten-stops _ _ p.1 (ends_text run) (flat_map end_text (drop i (zip run.logs run.ends))) c.end_line.result
    (flat_map end_text (drop (i + 1) (zip run.logs run.ends))) _ _ _ c.loop-i.invariant next c.in_err-write.ensures

pub loop-i-preserved : goal.loop-i-preserved
loop-i-preserved g c =
    let run = c.args.run.now in
    let i = c.loop-i.i in
    let end = slice_index_or c.ends.result.now c.from.result Leader in
    let at_log : slice_get run.logs i ≡ Some c.log.result.now = cc in
    let size = ap length c.logs.ensures.value in
    let within : i < length run.ends = omega (arith, c.ends.ensures.valid.ends) in
    let at_end = end-at run.ends c.ends.result.now i c.from.result within c.ends.ensures.value c.from.ensures in
    let next = next-text end_text c.end_line.result (
      c.log.result.now,
      end,
    ) (drop i (zip run.logs run.ends)) (drop (i + 1) (zip run.logs run.ends)) c.end_line.ensures
    (drop-zip run.logs run.ends i c.log.result.now end at_log at_end) in
    HasWritten-more (ends_text run) (flat_map end_text (drop i (zip run.logs run.ends))) c.end_line.result
    (flat_map end_text (drop (i + 1) (zip run.logs run.ends))) _ _ _ c.loop-i.invariant next c.in_ok-write.ensures

pub returns : goal.returns
returns g c =
    let run = c.args.run.now in
    let size = ap length c.logs.ensures.value in
    let short : length (zip run.logs run.ends) ≤ c.loop-i.i = rw length-zip (omega arith) in
    let left = flat_map end_text (drop c.loop-i.i (zip run.logs run.ends)) in
    HasWritten-whole (ends_text run) left _ _
    (ap (λ parts. flat_map end_text parts) (drop_all c.loop-i.i (zip run.logs run.ends) short)) c.loop-i.invariant
