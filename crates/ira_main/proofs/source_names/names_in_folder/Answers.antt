use Rattle.std.proofs.Common.{arith, sym}
use Rattle.std.proofs.lemmas.List.FromFn.{map-range_with_len_more}
use Rattle.ira_main_files.specs.FileName.{log_name}
use Rattle.ira_main.proofs.source_names.names_in_folder.Goals as goal

pub loop-place-preserved : goal.loop-place-preserved
loop-place-preserved g c =
    let at = c.loop-place.place in
    rw (c.in_ok-push.ensures.items, c.loop-place.invariant, c.in_ok-log.ensures)
    (sym (map-range_with_len_more (λ place. log_name c.args.folder.now place) 0 at at (omega arith)))
