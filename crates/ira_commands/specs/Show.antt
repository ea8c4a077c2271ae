-- What comes of showing or drawing a ring at a moment.
use Rattle.std.specs.Prelude.{◌≡◌, ℕ, Bool, true, false, List, [], ◌++◌, Result, Ok, Err, None, map, ⊤}
use Rattle.ira_event.specs.Log.{Log}
use Rattle.ira_event.specs.LogText.{log_text}
use Rattle.ira_mend.specs.RecordedLogs.{IsRecordedReason}
use Rattle.ira_audit.specs.GoodLogs.{AreGoodLogs}
use Rattle.ira_audit.specs.LogTexts.{AreLogTexts}
use Rattle.ira_audit.specs.Refusal.{IsLogsReason, IsRingReason}
use Rattle.ira_audit.specs.RefusedLogs.{AreRefused, RefusedLogs}
use Rattle.ira_audit.specs.Report.{IsReportableReason, report_line}
use Rattle.ira_audit.specs.declared.answer.Answer.{Answer}
use Rattle.ira_audit.specs.declared.answer.Answer.TheVariants as answer
use Rattle.ira_audit.specs.RingAnswer.{IsRingAnswer}
use Rattle.ira_audit.specs.declared.judged.Judged.{Judged}
use Rattle.ira_audit.specs.declared.judged.Judged.TheVariants.{Good, NoRing, Refused}
use Rattle.ira_audit.specs.declared.reason.Reason.{Reason}
use Rattle.ira_view_moment.specs.Told.{at_end}
use Rattle.ira_view_draw.specs.Drawing.{IsLogsDrawing}
use Rattle.ira_view_page.specs.Printable.{IsPrintable}
use Rattle.ira_view_page.specs.declared.named_text.NamedText.{NamedText}
use Rattle.ira_view_picture.specs.DrawFault.{HasTooManyEvents}
use Rattle.ira_view_picture.specs.declared.draw_fault.DrawFault.{DrawFault}
use Rattle.ira_view_picture.specs.declared.draw_fault.DrawFault.TheVariants as draw
use Rattle.ira_view.specs.Html.{IsHtmlOf, IsPictureTold, IsRefusalTold, IsRingHtml}
use Rattle.ira_view.specs.ShownRing.{HasTooManyAt, IsPageOf, IsPictureOf, ShownRing}
use Rattle.ira_view.specs.Status.{IsLeadsStatus, answer_status}
use Rattle.ira_view.specs.Texts.{AreFiles}
use Rattle.ira_view.specs.declared.form.Form.{Form}
use Rattle.ira_view.specs.declared.form.Form.TheVariants.{Json, Words}
use Rattle.ira_view.specs.declared.ring_fault.RingFault.{RingFault}
use Rattle.ira_view.specs.declared.ring_fault.RingFault.TheVariants as fault
use Rattle.ira_view.specs.declared.status.Status.{Status}
use Rattle.ira_view.specs.declared.status.Status.TheVariants.{No}
use Rattle.ira_commands.specs.Begun.{AreBegunLogs, SaysBreaksOff}
use Rattle.ira_commands.specs.Explain.{begun_heading}
use Rattle.ira_commands.specs.Output.{AreLinesAfter}
use Rattle.ira_commands.specs.Output.Printed.{all_events, json_lines}
use Rattle.ira_commands.specs.Reply.{Prints, Reply, ReportsAs, printed, printing, refused, with_files}
use Rattle.ira_commands.specs.Reply.MadeFiles.{one_text}
use Rattle.ira_commands.specs.RingForm.{answer_form, leaders_of, shows_left}
use Rattle.ira_commands.specs.RingLeaders.{AreDifferencesOf, AreNoPlaces, named_places}
use Rattle.ira_commands.specs.RingMoment.{IsAskedRing, IsNoAskedRing}
use Rattle.ira_commands.specs.declared.command_fault.CommandFault.TheVariants.{NoCase, NoMoment, NoPlace, TooManyEvents, WrongColumns}
use Rattle.ira_commands.specs.declared.ring_form.LinesForm.{LinesForm}
use Rattle.ira_commands.specs.declared.ring_form.RingForm.{RingForm}
use Rattle.ira_commands.specs.declared.ring_form.RingForm.TheVariants.{Html, Lines, Picture}
use Rattle.ira_commands.specs.declared.ring_leaders.RingLeaders.{RingLeaders}
use Rattle.ira_commands.specs.declared.ring_moment.RingMoment.{RingMoment}
use Rattle.ira_commands.specs.declared.ring_moment.RingMoment.TheVariants.{AtEnd}

-- such a picture, which is printable, is a file, and the line of the answer is printed; or so many events are too many for a
-- picture, or the columns that were found aren't right, and that is refused
pub data Draws (answer : Answer) (IsPicture : List ℕ → Type 0) (AreTooMany : ℕ → Type 0) (reply : Reply) : Type 0 where
  drawn : (picture : List ℕ) → IsPrintable picture → IsPicture picture
      → reply ≡ with_files (printed (answer_status answer) (report_line answer)) (one_text picture)
      → Draws answer IsPicture AreTooMany reply
  too_many : (events : ℕ) → AreTooMany events → reply ≡ refused (TooManyEvents events)
      → Draws answer IsPicture AreTooMany reply
  wrong_columns : reply ≡ refused WrongColumns → Draws answer IsPicture AreTooMany reply

-- lines on a ring are printed, with this status: as JSON; or, after these on who leads, all events in an order, where these
-- are wanted, or what it looks like at its moment
abbrev pub PrintsLinesAs : Form → Bool → RingLeaders → ShownRing → List ℕ → Status → Reply → Type 0
PrintsLinesAs Json has_events leaders ring differences status reply = reply ≡ printing status
    (json_lines (record { ring = ring; named = named_places leaders; has_events = has_events; status = status }))
PrintsLinesAs Words true leaders ring differences status reply = reply ≡ printing status (all_events ring differences)
PrintsLinesAs Words false leaders ring differences status reply =
    Prints (AreLinesAfter differences (IsPageOf ring)) status reply

-- and the status says whether there are lines on who leads
abbrev pub PrintsLines : LinesForm → ShownRing → List ℕ → Reply → Type 0
PrintsLines lines ring differences reply = (status : Status) × IsLeadsStatus differences status
    × PrintsLinesAs lines.form lines.has_events lines.leaders ring differences status reply

-- a ring is told in a form: lines after those on who leads, or a picture
abbrev pub TellsRing : RingForm → ShownRing → Reply → Type 0
TellsRing (Lines lines) ring reply =
    (differences : List ℕ) × AreDifferencesOf ring.logs lines.leaders differences
    × PrintsLines lines ring differences reply
TellsRing (Picture columns) ring reply =
    Draws answer.Yes (IsPictureOf ring columns.from columns.to) (HasTooManyAt ring columns.from columns.to) reply
TellsRing (Html columns) ring reply =
    Draws answer.Yes (IsRingHtml ring columns.from columns.to) (HasTooManyAt ring columns.from columns.to) reply

-- the lines of JSON that a page of these logs tells where texts are those of no run for this reason, in files of these names
abbrev pub IsRefusalToldOf : {A : Type 0} → List (List ℕ) → List (List ℕ) → Judged A → Reason → List Log → List ℕ → Type 0
IsRefusalToldOf names texts judged r logs told =
    (files : List NamedText) × AreFiles names texts files × IsRefusalTold files judged r logs told

-- these logs, against which this reason stands, are told in a form: there is a picture of them, or a page, and else the answer
-- alone
abbrev pub TellsRefused : {A : Type 0} → RingForm → List (List ℕ) → List (List ℕ) → Judged A → Reason → List Log → Reply
    → Type 0
TellsRefused (Lines lines) names texts judged r logs = ReportsAs lines.form (answer.No r)
TellsRefused (Picture columns) names texts judged r logs = Draws (answer.No r) (IsLogsDrawing logs columns.from columns.to)
    (HasTooManyEvents logs None columns.from columns.to)
TellsRefused (Html columns) names texts judged r logs = Draws (answer.No r)
    (IsHtmlOf (IsPictureTold logs at_end None columns.from columns.to) (IsRefusalToldOf names texts judged r logs))
    (HasTooManyEvents logs None columns.from columns.to)

-- this text shows logs of these texts at their end: the line of their answer, and after a yes their ring, whoever leads
pub data ShowsTexts (texts : List (List ℕ)) (text : List ℕ) : Type 0 where
  yes : (logs : List Log) (ring : ShownRing) → AreGoodLogs texts logs → IsAskedRing logs AtEnd [] ring
      → AreLinesAfter [] (IsPageOf ring) text → ShowsTexts texts text
  no : (r : Reason) → IsRingAnswer texts (answer.No r) → text ≡ report_line (answer.No r) → ShowsTexts texts text

-- such a text comes after this one
abbrev pub ComesAfter : List ℕ → (List ℕ → Type 0) → List ℕ → Type 0
ComesAfter before IsText text = (more : List ℕ) × IsText more × (text ≡ before ++ more)

-- this text is the line of a no, and shows below it these logs, which are what is left
abbrev pub IsLeftText : Reason → List Log → List ℕ → Type 0
IsLeftText r logs = ComesAfter (report_line (answer.No r) ++ begun_heading) (ShowsTexts (map log_text logs))

-- what is left of logs, these ones, is told in a form: in words, or there is a picture or a page of them
abbrev pub TellsLeft : Type 0 → RingForm → List (List ℕ) → List (List ℕ) → Reason → List Log → Reply → Type 0
TellsLeft A (Lines lines) names texts r logs = Prints (IsLeftText r logs) No
TellsLeft A (Picture columns) names texts r logs = TellsRefused {A = A} (Picture columns) names texts (NoRing r) r logs
TellsLeft A (Html columns) names texts r logs = TellsRefused {A = A} (Html columns) names texts (NoRing r) r logs

-- what is left of logs is shown, since the reason why they are no ring's is that a text breaks off
abbrev pub ShowsLeft : RingForm → RingMoment → Reason → Type 0
ShowsLeft form moment r = (shows_left form moment ≡ true) × SaysBreaksOff (answer.No r)

-- what comes of texts that are no ring's for this reason, in files of these names: where what is left is shown, their greatest
-- consistent beginning is, unless there is a reason why they aren't what is left of one ring; else there is the answer alone
pub data ShowsNoRing (A : Type 0) (form : RingForm) (moment : RingMoment) (names texts : List (List ℕ)) (r : Reason)
    (reply : Reply) : Type 0 where
  left : (logs : List Log) → ShowsLeft form moment r → AreBegunLogs texts logs → TellsLeft A form names texts r logs reply
      → ShowsNoRing A form moment names texts r reply
  alone : (ShowsLeft form moment r → (why : Reason) × IsRecordedReason true texts why)
      → ReportsAs (answer_form form) (answer.No r) reply → ShowsNoRing A form moment names texts r reply

-- why there is no such moment: the reason against the question is the answer; numbers that are no consistent cut, and that
-- of a case that isn't there, are refused
abbrev pub TellsFault : Form → RingFault → Reply → Type 0
TellsFault form (fault.No r) reply = ReportsAs form (answer.No r) reply
TellsFault form (fault.Cut f) reply = reply ≡ refused (NoMoment f)
TellsFault form fault.NoCase reply = reply ≡ refused NoCase
TellsFault form fault.OutOfMemory reply = ⊥

-- what comes of good logs and of the text of a question: the ring is told at the moment that is asked for; or why there
-- is no such moment; or a node that is to lead is none of the ring, which is refused
pub data ShowsGood (form : RingForm) (moment : RingMoment) (question : List ℕ) (logs : List Log) (reply : Reply)
    : Type 0 where
  shown : (ring : ShownRing) → IsAskedRing logs moment question ring → TellsRing form ring reply
      → ShowsGood form moment question logs reply
  no_moment : (f : RingFault) → IsNoAskedRing logs moment question f → TellsFault (answer_form form) f reply
      → ShowsGood form moment question logs reply
  no_place : AreNoPlaces logs (leaders_of form) → reply ≡ refused NoPlace → ShowsGood form moment question logs reply

-- what comes of the texts of files of these names and of the text of a question. They are those of good logs, whose ring
-- is told; or they are those of other logs of one ring; or this is why they are those of no ring's logs
pub data ShowsLogs (A : Type 0) (form : RingForm) (moment : RingMoment) (question : List ℕ)
    (names texts : List (List ℕ)) (reply : Reply) : Type 0 where
  good : (logs : List Log) → AreGoodLogs texts logs → ShowsGood form moment question logs reply
      → ShowsLogs A form moment question names texts reply
  no_run : (logs : RefusedLogs) → AreLogTexts texts logs.logs → AreRefused logs
      → IsLogsReason texts logs.reason → TellsRefused {A = A} form names texts (Refused logs) logs.reason logs.logs reply
      → ShowsLogs A form moment question names texts reply
  no_ring : (r : Reason) → IsRingReason texts r → ShowsNoRing A form moment names texts r reply
      → ShowsLogs A form moment question names texts reply

-- ---- Helpers, no definitions.

-- texts that were judged aren't those of good logs
abbrev pub IsNotGood : {A : Type 0} → Judged A → Type 0
IsNotGood (Good logs) = ⊥
IsNotGood (Refused logs) = ⊤
IsNotGood (NoRing r) = ⊤

-- the reason, if it is one, doesn't say that memory ran out
abbrev pub IsReportableFault : RingFault → Type 0
IsReportableFault (fault.No r) = IsReportableReason r
IsReportableFault (fault.Cut f) = ⊤
IsReportableFault fault.NoCase = ⊤
IsReportableFault fault.OutOfMemory = ⊤

-- a picture is a file, and the line of the answer is printed; or the events are too many for one, or their columns wrong
abbrev pub TellsPicture : Answer → Result (List ℕ) DrawFault → Reply → Type 0
TellsPicture answer (Ok picture) reply =
    reply ≡ with_files (printed (answer_status answer) (report_line answer)) (one_text picture)
TellsPicture answer (Err (draw.TooManyEvents events)) reply = reply ≡ refused (TooManyEvents events)
TellsPicture answer (Err draw.WrongColumns) reply = reply ≡ refused WrongColumns
TellsPicture answer (Err draw.OutOfMemory) reply = ⊥
