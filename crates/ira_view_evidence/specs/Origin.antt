-- Where to begin, of events without a step.
use Rattle.std.specs.Prelude.{◌≡◌, ◌↔◌, ℕ, ◌<◌, ◌≤◌, IsTrue, List, Some, length, slice_get}
use Rattle.ira_event.specs.Log.{Log}
use Rattle.ira_order.specs.Before.{Before}
use Rattle.ira_order.specs.Ring.{log_of}
use Rattle.ira_view_evidence.specs.declared.origin.Origin.{Origin}
use Rattle.ira_order.specs.declared.event_at.EventAt.{EventAt}
use Rattle.ira_order.specs.declared.faulty_event.FaultyEvent.{FaultyEvent}
use Rattle.ira_order.specs.FaultyEvent.{IsFirstFaultyEvent, Rises}

-- there is such an event
pub record IsEventAt (logs : List Log) (at : EventAt) : Type 0 where
  pub place : at.place < length logs
  pub first : 1 ≤ at.position
  pub last : at.position ≤ length (log_of logs at.place)

-- the one event happened before the other
abbrev pub HappenedBefore : List Log → EventAt → EventAt → Type 0
HappenedBefore logs a b = Before logs a.place a.position b.place b.position

-- a node's first event without a step before which no other node's happened
pub record IsOrigin (logs : List Log) (s : FaultyEvent) : Type 0 where
  pub faulty : IsFirstFaultyEvent logs s
  pub least : (other : FaultyEvent) → IsFirstFaultyEvent logs other → ¬ (HappenedBefore logs other.at s.at)

-- it is such an event, with whether it happened before the named one
abbrev pub IsToldOrigin : List Log → EventAt → Origin → Type 0
IsToldOrigin logs named b =
    IsOrigin logs b.event × (IsTrue b.happened_before ↔ HappenedBefore logs b.event.at named)

-- it is one of them
abbrev pub IsAmong : List Origin → FaultyEvent → Type 0
IsAmong origins s = (k : ℕ) × (b : Origin) × (slice_get origins k ≡ Some b) × (b.event ≡ s)

-- all such events, in the order of places, each with whether it happened before the named one
pub record AreOrigins (logs : List Log) (named : EventAt) (origins : List Origin) : Type 0 where
  pub each : (k : ℕ) (b : Origin) → slice_get origins k ≡ Some b → IsToldOrigin logs named b
  pub all : (s : FaultyEvent) → IsOrigin logs s → IsAmong origins s
  pub rise : Rises (λ b. b.event.at.place) origins
