-- The event without a step that is told besides a link.
use Rattle.std.specs.Option.{option_or}
use Rattle.std.specs.Prelude.{◌≡◌, ◌&&◌, Bool, List, Option, None, Some, is_some, nat_eq, nat_lt, slice_get}
use Rattle.std.specs.List.{find}
use Rattle.ira_order.specs.declared.faulty_event.FaultyEvent.{FaultyEvent}
use Rattle.ira_view_evidence.specs.declared.exchange.Exchange.{Exchange}

-- of these events the one that comes before this sending or receipt in the log of its node
abbrev pub stop_before : List FaultyEvent → Option Exchange → Option FaultyEvent
stop_before faulty None = None
stop_before faulty (Some x) =
    find (λ stop. nat_eq stop.at.place x.at.place && nat_lt stop.at.position x.at.position) faulty

-- the writer's, where it comes before the sending; else the reader's, where it comes before the receipt
abbrev pub earlier_stop : List FaultyEvent → Exchange → Option Exchange → Option FaultyEvent
earlier_stop faulty receipt sending = option_or (stop_before faulty sending) (stop_before faulty (Some receipt))

-- that one is told, where it is there; else the first of all, of which it isn't known whether it came before
abbrev pub IsBesides : List FaultyEvent → Exchange → Option Exchange → Option FaultyEvent → Bool → Type 0
IsBesides faulty receipt sending other came_before =
    (other ≡ option_or (earlier_stop faulty receipt sending) (slice_get faulty 0))
    × (came_before ≡ is_some (earlier_stop faulty receipt sending))
