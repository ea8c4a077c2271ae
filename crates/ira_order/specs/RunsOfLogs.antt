-- What runs of the ring given logs have.
use Rattle.std.specs.Prelude.{◌≡◌, ℕ, List}
use Rattle.ira_event.specs.declared.event.Event.{Event}
use Rattle.ira_event.specs.Log.{Log}
use Rattle.ira_order.specs.Order.{IsOrder}
use Rattle.ira_order.specs.Run.{IsRingRun, IsRunOfLogs, places_of}

-- the order means these events: their places are the order, and the events of each node are its log
abbrev pub Means : List Log → List ℕ → List (ℕ × Event) → Type 0
Means logs order run = (places_of run ≡ order) × IsRunOfLogs logs run

-- each order means events, and whatever events it means are a run of the ring
abbrev pub EveryOrderIsRun : List Log → Type 0
EveryOrderIsRun logs =
    (order : List ℕ) → IsOrder logs order
    → ((run : List (ℕ × Event)) × Means logs order run)
    × ((run : List (ℕ × Event)) → Means logs order run → IsRingRun logs run)

-- the logs are those of no run of the ring
abbrev pub HaveNoRun : List Log → Type 0
HaveNoRun logs = (run : List (ℕ × Event)) → IsRingRun logs run → ¬ (IsRunOfLogs logs run)
