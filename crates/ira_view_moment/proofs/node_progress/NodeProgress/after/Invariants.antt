use Rattle.std.proofs.Common.{◌≤◌, ◌-◌}
use Rattle.ira_view_moment.specs.NodeProgress.{IsProgress}
use Rattle.ira_view_moment.proofs.node_progress.NodeProgress.after.Given as goal

abbrev pub invariant-loop-progress : goal.invariant-loop-progress
invariant-loop-progress g l = record {
  progress : IsProgress l.log l.progress.events l.progress;
  within : l.progress.events ≤ l.events;
}

abbrev pub decreases-loop-progress : goal.decreases-loop-progress
decreases-loop-progress g l = l.events - l.progress.events
