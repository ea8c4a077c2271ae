-- What is printed on standard output.
use Rattle.std.specs.Prelude.{◌≡◌, ◌⊎◌, ℕ, Err, List, ◌++◌, Ok, Result, ⊤}
use Rattle.ira_event.specs.Sink.{SinkState, StopsIn, Takes}
use Rattle.ira_audit.specs.Report.{report_line}
use Rattle.ira_audit.specs.declared.answer.Answer.TheVariants.{Yes}
use Rattle.ira_view_page.specs.Printable.{IsPrintable}
use Rattle.ira_view_page.specs.declared.show_fault.ShowFault.{ShowFault}
use Rattle.ira_view_page.specs.declared.show_fault.ShowFault.TheVariants.{OutOfMemory, WrongColumns, Write}
use Rattle.ira_view.specs.ShownRing.{AreEventsOf, AreJsonLines, AreSomeJsonLines, ShownRing}
use Rattle.ira_commands.specs.JsonLines.{JsonLines}
use Rattle.ira_commands.specs.declared.output.Output.{Output}
use Rattle.ira_commands.specs.declared.output.Output.TheVariants as output

-- a text; or all events of a ring after lines on who leads; or lines of JSON on a ring
pub data Printed : Type 0 where
  whole_text : List ℕ → Printed
  all_events : ShownRing → List ℕ → Printed
  json_lines : JsonLines → Printed

-- the text is the line of a yes, these lines on who leads and such lines after them, all of them printable
abbrev pub AreLinesAfter : List ℕ → (List ℕ → Type 0) → List ℕ → Type 0
AreLinesAfter differences AreLines text =
    (lines : List ℕ) × AreLines lines × IsPrintable (differences ++ lines)
    × (text ≡ report_line Yes ++ differences ++ lines)

-- it is such a text
abbrev pub IsPrinted : Printed → List ℕ → Type 0
IsPrinted (whole_text printed) text = text ≡ printed
IsPrinted (all_events ring differences) text = AreLinesAfter differences (AreEventsOf ring) text
IsPrinted (json_lines lines) text = AreJsonLines lines.has_events lines.named lines.ring lines.status text

-- where it ends early it begins as such a text does
abbrev pub IsBegun : Printed → List ℕ → Type 0
IsBegun (whole_text printed) text = text ≡ printed
IsBegun (all_events ring differences) text = AreLinesAfter differences (λ _. ⊤) text
IsBegun (json_lines lines) text = AreSomeJsonLines lines.named lines.ring lines.status text

-- memory or columns failed after a first part of it, or before it. Of a text they don't
abbrev pub RanOut : Printed → SinkState → SinkState → Type 0
RanOut (whole_text printed) old new = ⊥
RanOut printed old new = (new ≡ old) ⊎ ((text : List ℕ) × IsBegun printed text × Takes text old new)

-- a sink took all of it; or a first part, where the sink, memory or columns failed
abbrev pub WroteOutput : {T : Type 0} → Printed → Result T ShowFault → SinkState → SinkState → Type 0
WroteOutput printed (Ok v) old new = (text : List ℕ) × IsPrinted printed text × Takes text old new
WroteOutput printed (Err Write) old new = (text : List ℕ) × IsBegun printed text × StopsIn text old new
WroteOutput printed (Err OutOfMemory) old new = RanOut printed old new
WroteOutput printed (Err WrongColumns) old new = RanOut printed old new

-- ---- Helpers, no definitions.

-- what a value of the program prints
abbrev pub printed_by : {A : Type 0} → Output A → Printed
printed_by (output.Text text) = whole_text text.bytes
printed_by (output.Events alloc ring differences) = all_events ring differences
printed_by (output.Json lines) = json_lines lines
