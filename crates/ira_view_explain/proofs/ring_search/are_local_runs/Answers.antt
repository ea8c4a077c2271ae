use Rattle.std.proofs.Common.{below_more}
use Rattle.ira_view_explain.proofs.ring_search.are_local_runs.Goals as goal

pub loop-place-preserved : goal.loop-place-preserved
loop-place-preserved g c =
    below_more _ _ c.loop-place.invariant (
      c.log.result.now,
      c.log.ensures.value,
      (c.in-Ok.field-0, (c.replay.ensures.ok c.in-Ok.field-0).0 c.in-Ok.is),
    )
