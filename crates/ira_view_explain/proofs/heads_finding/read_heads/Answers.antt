use Rattle.std.proofs.lemmas.Option.{slice_get-get_or}
use Rattle.ira_view_page.proofs.ForEach.{one_more}
use Rattle.ira_view_explain.proofs.LogFiles.{opened}
use Rattle.ira_view_explain.proofs.heads_finding.read_heads.Goals as goal

pub unreachable-requires : goal.unreachable-requires
unreachable-requires g c =
    opened c.args.files.now c.loop-file.file-index _ _ c.requires
    (slice_get-get_or c.args.files.now c.loop-file.file-index _ c.loop-file-test.true)
    (rw c.in_default.is at c.open_log.ensures)

pub loop-file-preserved : goal.loop-file-preserved
loop-file-preserved g c =
    let opened = rw c.in-Ok.is at c.open_log.ensures in
    one_more _ c.args.files.now c.loop-file.file-index c.loop-file.heads.items _ _ _
    (slice_get-get_or c.args.files.now c.loop-file.file-index _ c.loop-file-test.true) c.loop-file.invariant
    (_, opened.1) c.in_ok-push.ensures.items
