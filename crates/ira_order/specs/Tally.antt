-- How far a node has come in its log.
use Rattle.std.specs.Prelude.{◌≡◌, ℕ, ◌+◌, List, [], length, take}
use Rattle.std.specs.List.{cons_option}
use Rattle.ira_event.specs.declared.event.Event.{Event}
use Rattle.ira_order.specs.declared.tally.Tally.{Tally}
use Rattle.ira_order.specs.Matching.{sent, got, sending, receipt}

-- how many loads an event sends
abbrev pub sent_by : Event → ℕ
sent_by event = length (cons_option (sending event) [])

-- how many loads an event receives
abbrev pub got_by : Event → ℕ
got_by event = length (cons_option (receipt event) [])

-- before the first event
abbrev pub no_events : Tally
no_events = record { events = 0; sendings = 0; receipts = 0 }

-- with one event more
abbrev pub tallied : Tally → Event → Tally
tallied t event = record {
  events = t.events + 1;
  sendings = t.sendings + sent_by event;
  receipts = t.receipts + got_by event;
}

-- after the first n of these events
pub record IsTally (events : List Event) (n : ℕ) (t : Tally) : Type 0 where
  pub made : t.events ≡ n
  pub sendings : t.sendings ≡ length (sent (take n events))
  pub receipts : t.receipts ≡ length (got (take n events))
