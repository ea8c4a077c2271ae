-- Where the events of a log stand in its text.
use Rattle.std.specs.Prelude.{◌≡◌, ℕ, ◌+◌, List, ◌++◌, Some, codes, decimal}
use Rattle.ira_event.specs.declared.event.Event.{Event}
use Rattle.ira_event.specs.Log.{Log}
use Rattle.ira_event.specs.LogText.{IsLogText, IsRecord}
use Rattle.ira_order.specs.Ring.{numbered}
use Rattle.ira_view_page.specs.Lines.{IsLine}
use Rattle.ira_view_page.specs.Printable.{shown}
use Rattle.ira_view_page.specs.Words.{event_text}

-- in each log's text this line is the record of the event that has this position in the log, counted from 1
abbrev pub IsLineOfEvent : ℕ → ℕ → Type 0
IsLineOfEvent position number =
    (text : List ℕ) (log : Log) (event : Event) → IsLogText text log → numbered log.events position ≡ Some event
    → (line : List ℕ) × IsLine text number line × IsRecord line event

-- a line of a file
abbrev pub place_text : List ℕ → ℕ → List ℕ
place_text file line = shown file ++ codes ":" ++ decimal line

-- an event, with the line of its file
abbrev pub record_text : List ℕ → ℕ → Event → List ℕ
record_text file position event = place_text file (position + 4) ++ codes ": " ++ event_text event
