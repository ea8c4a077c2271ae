-- What is told of a ring at a moment that is asked for.
use Rattle.std.proofs.Common.{◌≡◌, ◌∙◌, ◌++◌, ℕ, List, [], IfOk, Ok, Err, Result, ap, inl, inr, map, refl, subst}
use Rattle.std.specs.Prelude.{◌↔◌, true}
use Rattle.ira_event.specs.LogText.{log_text}
use Rattle.ira_audit.proofs.Judging.{refused_reason}
use Rattle.ira_audit.specs.GoodLogs.{AreGoodLogs}
use Rattle.ira_audit.specs.Judged.{IsJudged}
use Rattle.ira_audit.specs.Refusal.{IsQuestionRefusal}
use Rattle.ira_audit.specs.Report.{IsReportableReason, report_line}
use Rattle.ira_audit.specs.RingAnswer.{IsRingAnswer}
use Rattle.ira_audit.specs.declared.answer.Answer.{Answer}
use Rattle.ira_audit.specs.declared.answer.Answer.TheVariants.{No}
use Rattle.ira_audit.specs.declared.judged.Judged.{Judged}
use Rattle.ira_audit.specs.declared.judged.Judged.TheVariants.{Good, NoRing, Refused}
use Rattle.ira_audit.specs.declared.reason.Reason.{Reason}
use Rattle.ira_event.specs.Log.{Log}
use Rattle.ira_view_page.specs.Printable.{IsPrintable}
use Rattle.ira_view_picture.specs.declared.draw_fault.DrawFault.{DrawFault}
use Rattle.ira_view_picture.specs.declared.draw_fault.DrawFault.TheVariants as draw
use Rattle.ira_view.specs.ShownRing.{IsPageOf, ShownRing}
use Rattle.ira_view.specs.declared.status.Status.TheVariants as status
use Rattle.ira_view.specs.declared.ring_fault.RingFault.{RingFault}
use Rattle.ira_view.specs.declared.ring_fault.RingFault.TheVariants as fault
use Rattle.ira_commands.specs.RingMoment.{IsAskedRing, IsNoAskedRing}
use Rattle.ira_commands.specs.RingForm.{needs_files, shows_left, wants_page}
use Rattle.ira_commands.specs.declared.ring_form.RingForm.{RingForm}
use Rattle.ira_commands.specs.declared.ring_form.RingForm.TheVariants.{Html, Lines, Picture}
use Rattle.ira_commands.specs.declared.ring_moment.RingMoment.{RingMoment}
use Rattle.ira_commands.specs.Explain.{begun_heading}
use Rattle.ira_commands.specs.Output.{AreLinesAfter}
use Rattle.ira_commands.specs.Reply.{Prints, Reply, printed}
use Rattle.ira_commands.specs.Show.{ComesAfter, Draws, IsLeftText, IsNotGood, IsReportableFault, TellsLeft, TellsPicture}
use Rattle.ira_commands.specs.Show.{TellsRefused}
use Rattle.ira_commands.specs.Show.Draws.{drawn, too_many, wrong_columns}
use Rattle.ira_commands.specs.Show.ShowsTexts.{no, yes}
use Rattle.ira_commands.specs.declared.ring_form.LinesForm.{LinesForm}
use Rattle.ira_commands.specs.declared.ring_form.RingForm.{RingForm}
use Rattle.ira_commands.specs.declared.ring_form.RingForm.TheVariants.{Html, Lines, Picture}
use Rattle.ira_commands.specs.declared.ring_moment.RingMoment.{RingMoment}
use Rattle.ira_commands.specs.declared.ring_moment.RingMoment.TheVariants.{AtCut, AtEnd, OfQuestion}

-- the reason why a question is refused doesn't say that memory ran out
question_reportable : (text : List ℕ) (nodes : ℕ) (r : Reason) → IsQuestionRefusal text nodes r → IsReportableReason r
question_reportable text nodes r (inl h) = rw h.3 h.2
question_reportable text nodes r (inr h) = rw h.3 tt

pub fault_reportable : (logs : List Log) (moment : RingMoment) (question : List ℕ) (f : RingFault)
    → IsNoAskedRing logs moment question f → IsReportableFault f
fault_reportable logs AtEnd question f h = absurd h
fault_reportable logs (AtCut events) question (fault.No r) h = absurd h
fault_reportable logs (AtCut events) question (fault.Cut f) h = tt
fault_reportable logs (AtCut events) question fault.NoCase h = tt
fault_reportable logs (AtCut events) question fault.OutOfMemory h = tt
fault_reportable logs (OfQuestion case) question (fault.No r) h = question_reportable question _ r h
fault_reportable logs (OfQuestion case) question (fault.Cut f) h = tt
fault_reportable logs (OfQuestion case) question fault.NoCase h = tt
fault_reportable logs (OfQuestion case) question fault.OutOfMemory h = tt

-- a picture, or why there is none
pub draws : (answer : Answer) (IsPicture : List ℕ → Type 0) (AreTooMany : ℕ → Type 0)
    (picture : Result (List ℕ) DrawFault) (reply : Reply) → IfOk picture IsPrintable → IfOk picture IsPicture
    → ((events : ℕ) → picture ≡ Err (draw.TooManyEvents events) → AreTooMany events)
    → TellsPicture answer picture reply → Draws answer IsPicture AreTooMany reply
draws answer IsPicture AreTooMany (Ok picture) reply printable is many told = drawn picture printable is told
draws answer IsPicture AreTooMany (Err (draw.TooManyEvents events)) reply printable is many told =
    too_many events (many events refl) told
draws answer IsPicture AreTooMany (Err draw.WrongColumns) reply printable is many told = wrong_columns told
draws answer IsPicture AreTooMany (Err draw.OutOfMemory) reply printable is many told = absurd told

-- a ring that is asked for has these logs
pub ring_logs : (logs : List Log) (moment : RingMoment) (question : List ℕ) (ring : ShownRing)
    → IsAskedRing logs moment question ring → ring.logs ≡ logs
ring_logs logs AtEnd question ring h = ap (λ (r : ShownRing). r.logs) h
ring_logs logs (AtCut events) question ring h = h.0
ring_logs logs (OfQuestion case) question ring h = h.0

-- texts that were judged, and not to be good logs
pub not_good : {A : Type 0} (judged : Judged A) → ((logs : List Log) → judged ≡ Good logs → ⊥) → IsNotGood judged
not_good (Good logs) other = other logs refl
not_good (Refused logs) other = tt
not_good (NoRing r) other = tt

-- the answer of texts that aren't those of good logs is a no
pub no_answer : {A : Type 0} (texts : List (List ℕ)) (judged : Judged A) (a : Answer) → IsNotGood judged
    → IsJudged texts judged → ((b : Answer) → IsJudged texts judged → (a ≡ b) ↔ IsRingAnswer texts b)
    → (r : Reason) × (a ≡ No r) × IsRingAnswer texts (No r)
no_answer texts (Good logs) a bad is says = absurd bad
no_answer texts (Refused refused) a bad is says =
    let why = refused_reason texts refused is.0 is.1 in
    (refused.reason, (says (No refused.reason) is).1 why.0, why.0)
no_answer texts (NoRing r) a bad is says = (r, (says (No r) is).1 is.0, is.0)

-- good logs are shown below the line of a no
pub left_good : (r : Reason) (begun logs : List Log) (ring : ShownRing) (before none : List ℕ) (reply : Reply)
    → before ≡ report_line (No r) ++ begun_heading → none ≡ [] → AreGoodLogs (map log_text begun) logs
    → IsAskedRing logs AtEnd [] ring → Prints (ComesAfter before (AreLinesAfter none (IsPageOf ring))) status.No reply
    → Prints (IsLeftText r begun) status.No reply
left_good r begun logs ring before none reply is empty good asked told =
    let more = told.1.0 in
    let lines = subst (λ (d : List ℕ). AreLinesAfter d (IsPageOf ring) more) empty told.1.1 in
    (told.0, (more, yes logs ring good asked lines, told.1.2 ∙ ap (λ (b : List ℕ). b ++ more) is), told.2)

-- so is the line of another no
pub left_no : (r : Reason) (begun : List Log) (a : Answer) (before text : List ℕ) (reply : Reply)
    → before ≡ report_line (No r) ++ begun_heading → text ≡ before ++ report_line a
    → (q : Reason) × (a ≡ No q) × IsRingAnswer (map log_text begun) (No q) → reply ≡ printed status.No text
    → Prints (IsLeftText r begun) status.No reply
left_no r begun a before text reply is takes why told =
    let line = report_line (No why.0) in
    let all = takes ∙ ap (λ (b : Answer). before ++ report_line b) why.1 ∙ ap (λ (b : List ℕ). b ++ line) is in
    (text, (line, no why.0 why.2 refl, all), told)

-- what is left is told as refused logs are, but for its words
pub told_left : (A : Type 0) (form : RingForm) (names texts : List (List ℕ)) (r : Reason) (logs : List Log)
    (reply : Reply) → ((lines : LinesForm) → form ≡ Lines lines → ⊥)
    → TellsRefused {A = A} form names texts (NoRing r) r logs reply → TellsLeft A form names texts r logs reply
told_left A (Lines lines) names texts r logs reply other told = absurd (other lines refl)
told_left A (Picture columns) names texts r logs reply other told = told
told_left A (Html columns) names texts r logs reply other told = told

-- ---- the files of logs

pub page_needs : (form : RingForm) (moment : RingMoment) → wants_page form ≡ true → needs_files form moment ≡ true
page_needs (Html columns) moment page = refl
page_needs (Lines lines) moment page = absurd cc
page_needs (Picture columns) moment page = absurd cc

pub left_needs : (form : RingForm) (moment : RingMoment) → shows_left form moment ≡ true → needs_files form moment ≡ true
left_needs (Html columns) moment shows = refl
left_needs (Lines lines) moment shows = shows
left_needs (Picture columns) moment shows = shows
