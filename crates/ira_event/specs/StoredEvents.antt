-- A helper, no definition: the list of the events of a log in either form.
use Rattle.std.specs.Prelude.{List}
use Rattle.ira_event.specs.declared.event.Event.{Event}
use Rattle.ira_event.specs.declared.stored_events.Form.{Form}
use Rattle.ira_event.specs.declared.stored_events.Form.TheVariants.{Plain, Packed}

-- the events that are stored
abbrev pub events_of : {A : Type 0} → Form A → List Event
events_of (Plain events) = events.items
events_of (Packed events) = events.items
