-- The first events without a step of the nodes of a ring.
use Rattle.std.specs.Prelude.{◌≡◌, ℕ, ◌<◌, List, Some, slice_get}
use Rattle.ira_event.specs.Log.{Log}
use Rattle.ira_replay.specs.LocalRun.{IsFirstFault}
use Rattle.ira_order.specs.declared.faulty_event.FaultyEvent.{FaultyEvent}

-- the first event of its node's log that has no step, and why it has none
pub record IsFirstFaultyEvent (logs : List Log) (s : FaultyEvent) : Type 0 where
  pub log : Log
  pub log_is : slice_get logs s.at.place ≡ Some log
  pub fault : IsFirstFault log (record { position = s.at.position; fault = s.fault })

-- the numbers of a list's members rise
abbrev pub Rises : {X : Type 0} → (X → ℕ) → List X → Type 0
Rises {X} number xs =
    (k h : ℕ) (x y : X) → k < h → slice_get xs k ≡ Some x → slice_get xs h ≡ Some y → number x < number y

-- those of all logs that have one, in the order of places
pub record AreFirstFaultyEvents (logs : List Log) (stops : List FaultyEvent) : Type 0 where
  pub each : (k : ℕ) (s : FaultyEvent) → slice_get stops k ≡ Some s → IsFirstFaultyEvent logs s
  pub all : (s : FaultyEvent) → IsFirstFaultyEvent logs s → (k : ℕ) × (slice_get stops k ≡ Some s)
  pub rise : Rises (λ s. s.at.place) stops
