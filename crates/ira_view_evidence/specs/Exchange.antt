-- The sendings and receipts of a link, by their numbers.
use Rattle.std.specs.Prelude.{◌≡◌, ℕ, List, Option, Some, length, take}
use Rattle.std.specs.List.{filter_map}
use Rattle.ira_event.specs.declared.event.Event.{Event}
use Rattle.ira_event.specs.declared.event.Event.TheVariants.{Sent, Got}
use Rattle.ira_event.specs.declared.load.Load.{Load}
use Rattle.ira_event.specs.Log.{Log}
use Rattle.ira_order.specs.Ring.{next, log_of, numbered}
use Rattle.ira_order.specs.Matching.{sent, got}
use Rattle.ira_view_evidence.specs.declared.exchange.Exchange.{Exchange}

-- the event at this position, counted from 1, sends the load, and is the k-th that sends one
pub record IsNthSent (events : List Event) (k position : ℕ) (load : Load) : Type 0 where
  pub event : numbered events position ≡ Some (Sent load)
  pub rank : length (sent (take position events)) ≡ k
  pub load_is : numbered (sent events) k ≡ Some load

-- the same of the events that receive
pub record IsNthGot (events : List Event) (k position : ℕ) (load : Load) : Type 0 where
  pub event : numbered events position ≡ Some (Got load)
  pub rank : length (got (take position events)) ≡ k
  pub load_is : numbered (got events) k ≡ Some load

-- sending k of the link: an event of the node whose link it is
abbrev pub IsNthSending : List Log → ℕ → ℕ → Exchange → Type 0
IsNthSending logs link k x = (x.at.place ≡ link) × IsNthSent (log_of logs link) k x.at.position x.load

-- receipt k of the link: an event of the node that the link leads to
abbrev pub IsNthReceipt : List Log → ℕ → ℕ → Exchange → Type 0
IsNthReceipt logs link k x =
    (x.at.place ≡ next (length logs) link) × IsNthGot (log_of logs (next (length logs) link)) k x.at.position x.load

-- a helper, no definition: node i's k-th event that has a load
pub record IsNth (load_of : Event → Option Load) (i : ℕ) (events : List Event) (k : ℕ) (x : Exchange) : Type 0 where
  pub place : x.at.place ≡ i
  pub event : Event
  pub stands : numbered events x.at.position ≡ Some event
  pub has : load_of event ≡ Some x.load
  pub rank : length (filter_map load_of (take x.at.position events)) ≡ k
  pub load_is : numbered (filter_map load_of events) k ≡ Some x.load
