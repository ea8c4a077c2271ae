-- The line of an event.
use Rattle.std.specs.Prelude.{ℕ, List, ◌++◌, codes}
use Rattle.ira_event.specs.declared.event.Event.{Event}
use Rattle.ira_view_trail.specs.declared.trail_step.TrailStep.{TrailStep}
use Rattle.ira_view_show.specs.EventParts.{change_part, number_in, sender_part}
use Rattle.ira_view_show.specs.declared.change.Change.{Change}
use Rattle.ira_view_show.specs.declared.event_line.EventColumns.{EventColumns}
use Rattle.ira_view_page.specs.Words.{event_text}

-- a step of a trail: its number, its node, and the event's number there
abbrev pub numbers_text : EventColumns → ℕ → TrailStep → List ℕ
numbers_text columns number step =
    number_in columns.step number ++ codes "  node " ++ number_in columns.place step.place ++ codes "  event "
    ++ number_in columns.event step.event
    ++ codes "  "

-- the same, the event, for a receipt the step that sent it, and what it changed, with so many spaces before them
abbrev pub event_line_text : EventColumns → ℕ → TrailStep → Event → ℕ → ℕ → Change → List ℕ
event_line_text columns number step event room gap change =
    codes "  " ++ numbers_text columns number step ++ event_text event ++ sender_part room step.sent_by
    ++ change_part gap change
    ++ codes "\n"
