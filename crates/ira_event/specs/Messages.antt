-- What events draw, send and receive.
use Rattle.std.specs.Prelude.{◌≡◌, ℕ, List, [], ◌++◌, Option, Some, None}
use Rattle.std.specs.List.{filter_map}
use Rattle.ira_event.specs.declared.load.Load.{Load}
use Rattle.ira_event.specs.declared.event.Event.{Event}
use Rattle.ira_event.specs.declared.event.Event.TheVariants.{Draw, Sent, Got, Yield}

-- the ID that an event draws
abbrev pub drawing : Event → Option ℕ
drawing (Draw id) = Some id
drawing (Sent l) = None
drawing (Got l) = None
drawing Yield = None

-- the load that an event sends
abbrev pub sending : Event → Option Load
sending (Draw id) = None
sending (Sent l) = Some l
sending (Got l) = None
sending Yield = None

-- the load that an event receives
abbrev pub receipt : Event → Option Load
receipt (Draw id) = None
receipt (Sent l) = None
receipt (Got l) = Some l
receipt Yield = None

-- the IDs that these events draw, in their order
abbrev pub drawn : List Event → List ℕ
drawn events = filter_map drawing events

-- the loads that these events send, in their order
abbrev pub sent : List Event → List Load
sent events = filter_map sending events

-- the loads that these events receive, in their order
abbrev pub got : List Event → List Load
got events = filter_map receipt events

-- `left` is what stands after some first ones of these events, none of which has a load by `load`
abbrev pub PassesNo : (Event → Option Load) → List Event → List Event → Type 0
PassesNo load events left = (passed : List Event) × (events ≡ passed ++ left) × (filter_map load passed ≡ [])
