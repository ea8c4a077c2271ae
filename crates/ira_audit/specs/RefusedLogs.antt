-- The logs of a ring that are those of no run of it, and why.
use Rattle.std.specs.Prelude.{List}
use Rattle.ira_event.specs.Log.{Log}
use Rattle.ira_event.specs.Logs.{AreLogs}
use Rattle.ira_order.specs.declared.faulty_event.FaultyEvent.{FaultyEvent}
use Rattle.ira_order.specs.Circle.{HasCircle, HasOrder}
use Rattle.ira_order.specs.FaultyEvent.{AreFirstFaultyEvents}
use Rattle.ira_order.specs.MatchFault.{IsMatchFault}
use Rattle.ira_audit.specs.declared.reason.Reason.{Reason}
use Rattle.ira_audit.specs.declared.reason.Reason.TheVariants.{Match, Circle, Replay}
use Rattle.ira_audit.specs.RingAnswer.{IsFirstReplayFault}

-- the reason against the logs of a ring: they don't match; they match and have no order; or they have an order, but an
-- event has no step
abbrev pub IsReasonOf : List Log → Reason → Type 0
IsReasonOf logs (Match f) = IsMatchFault logs f
IsReasonOf logs Circle = HasCircle logs
IsReasonOf logs (Replay place position fault) =
    HasOrder logs × IsFirstReplayFault logs place (record { position = position; fault = fault })
IsReasonOf logs _ = ⊥

-- logs, a reason, and events without a step
pub record RefusedLogs : Type 0 where
  pub logs : List Log
  pub reason : Reason
  pub faulty_events : List FaultyEvent

-- the logs are those of a ring, the reason is the one against them, and these are their first events without a step
pub record AreRefused (refused : RefusedLogs) : Type 0 where
  pub ring : AreLogs refused.logs
  pub reason : IsReasonOf refused.logs refused.reason
  pub faulty : AreFirstFaultyEvents refused.logs refused.faulty_events
