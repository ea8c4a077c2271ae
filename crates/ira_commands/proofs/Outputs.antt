-- What a sink takes of what is made as it is printed.
use Rattle.std.proofs.Common.{◌≡◌, ◌∙◌, ℕ, List, [], ◌++◌, Result, Err, Ok, OnOk, ap, append_assoc, inl, inr, refl}
use Rattle.std.specs.Prelude.{⊤}
use Rattle.ira_audit.specs.Report.{report_line}
use Rattle.ira_audit.specs.declared.answer.Answer.TheVariants.{Yes}
use Rattle.ira_event.proofs.Writing.{StopsIn-append, Takes-StopsIn, Takes-append}
use Rattle.ira_event.specs.Sink.{SinkState, StopsIn, Takes}
use Rattle.ira_view_json.specs.ShownAnswer.{AreTold, WroteRing}
use Rattle.ira_view_page.specs.Printable.{IsPrintable}
use Rattle.ira_view_page.specs.declared.show_fault.ShowFault.{ShowFault}
use Rattle.ira_view_page.specs.declared.show_fault.ShowFault.TheVariants.{OutOfMemory, WrongColumns, Write}
use Rattle.ira_view_page.proofs.Printables.{printable_append}
use Rattle.ira_view_show.specs.Showed.{Showed}
use Rattle.ira_view.specs.ShownRing.{AreEventsOf, ShownRing}
use Rattle.ira_view.specs.Status.{status_number}
use Rattle.ira_view.specs.declared.status.Status.{Status}
use Rattle.ira_commands.specs.JsonLines.{JsonLines}
use Rattle.ira_commands.specs.Output.{AreLinesAfter, IsBegun, WroteOutput}
use Rattle.ira_commands.specs.Output.Printed.{all_events, json_lines}
use Rattle.ira_commands.specs.Reply.{Prints, Reply, printed}
use Rattle.ira_commands.specs.Show.{ComesAfter}

-- the line of a yes and the lines on who leads, which are printed first
abbrev pub front : List ℕ → List ℕ
front differences = report_line Yes ++ differences

-- such lines come after them
pub lines_after : (d : List ℕ) (AreLines : List ℕ → Type 0) (lines : List ℕ) → IsPrintable d → AreLines lines
    → IsPrintable lines → AreLinesAfter d AreLines (front d ++ lines)
lines_after d AreLines lines p are q = (lines, are, printable_append d lines p q, append_assoc (report_line Yes) d lines)

-- the sink failed before the events
pub events_unbegun : (ring : ShownRing) (d : List ℕ) (s t : SinkState) → IsPrintable d → StopsIn (front d) s t
    → (text : List ℕ) × IsBegun (all_events ring d) text × StopsIn text s t
events_unbegun ring d s t p stop = (_, lines_after d (λ _. ⊤) [] p tt refl, StopsIn-append s t (front d) [] stop)

-- the line and the lines on who leads were taken, and then what was taken of the events
pub events_written : {T : Type 0} (ring : ShownRing) (d : List ℕ) (r : Result T ShowFault) (s t u : SinkState)
    → IsPrintable d → Takes (front d) s t → Showed r t u
    → OnOk r ((text : List ℕ) × AreEventsOf ring text × IsPrintable text × Takes text t u)
    → WroteOutput (all_events ring d) r s u
events_written ring d (Ok v) s t u p first showed told =
    (_, lines_after d (AreEventsOf ring) told.0 p told.1 told.2, Takes-append s t u (front d) told.0 first told.3)
events_written ring d (Err Write) s t u p first more told =
    (_, lines_after d (λ _. ⊤) more.0 p tt more.1, Takes-StopsIn s t u (front d) more.0 first more.2)
events_written ring d (Err OutOfMemory) s t u p first more told =
    inr (_, lines_after d (λ _. ⊤) more.0 p tt more.1, Takes-append s t u (front d) more.0 first more.2)
events_written ring d (Err WrongColumns) s t u p first more told =
    inr (_, lines_after d (λ _. ⊤) more.0 p tt more.1, Takes-append s t u (front d) more.0 first more.2)

-- lines of JSON, of which the first has the number of the status
pub json_written : {T : Type 0} (lines : JsonLines) (n : ℕ) (r : Result T ShowFault) (s t : SinkState)
    → n ≡ status_number lines.status
    → WroteRing lines.ring.logs lines.named n lines.ring.told lines.ring.cut
    (AreTold lines.has_events lines.ring.logs lines.ring.cut) r s t
    → WroteOutput (json_lines lines) r s t
json_written lines n (Ok v) s t number wrote = (wrote.0, rw number at wrote.1, wrote.2)
json_written lines n (Err Write) s t number wrote = (wrote.0, rw number at wrote.1, wrote.2)
json_written lines n (Err OutOfMemory) s t number (inl none) = inl none
json_written lines n (Err OutOfMemory) s t number (inr took) = inr (took.0, rw number at took.1, took.2)
json_written lines n (Err WrongColumns) s t number took = inr (took.0, rw number at took.1, took.2)

-- what comes after no text is printed
pub printed_alone : (IsText : List ℕ → Type 0) (before : List ℕ) (status : Status) (reply : Reply) → before ≡ []
    → Prints (ComesAfter before IsText) status reply → Prints IsText status reply
printed_alone IsText before status reply none h =
    (h.1.0, h.1.1, h.2 ∙ ap (printed status) (h.1.2 ∙ ap (λ b. b ++ h.1.0) none))
