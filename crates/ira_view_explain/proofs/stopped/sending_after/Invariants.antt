use Rattle.std.proofs.Common.{◌≡◌, ◌≤◌, ℕ, drop, length}
use Rattle.ira_view_explain.specs.StopHint.{IsSentAfter}
use Rattle.ira_view_explain.proofs.stopped.sending_after.Given as goal

abbrev pub invariant-loop-event : goal.invariant-loop-event
invariant-loop-event g l = record {
  ahead : l.event-iterator ≡ drop l.number l.log.events;
  within : l.number ≤ length l.log.events;
  none : (n : ℕ) → n ≤ l.number → ¬ (IsSentAfter l.log l.position l.load n);
}
