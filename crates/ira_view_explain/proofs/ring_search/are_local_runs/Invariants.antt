use Rattle.std.proofs.Common.{◌<◌, ℕ}
use Rattle.ira_view_explain.specs.RingHint.{RunsAt}
use Rattle.ira_view_explain.proofs.ring_search.are_local_runs.Given as goal

abbrev pub invariant-loop-place : goal.invariant-loop-place
invariant-loop-place g l = (i : ℕ) → i < l.place → RunsAt l.logs i
