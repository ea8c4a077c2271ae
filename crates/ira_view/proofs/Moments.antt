-- Rings at moments.
use Rattle.std.proofs.Common.{◌≡◌, ℕ, ◌<◌, List, [], Option, Some, None, Err, arith, inl, inr, length, refl}
use Rattle.std.specs.Prelude.{MatchOption, slice_get}
use Rattle.std.proofs.lemmas.Option.{slice_get_cases, slice_get_within}
use Rattle.ira_event.specs.Log.{Log}
use Rattle.ira_cert_text.specs.Certificate.{Section}
use Rattle.ira_elim.specs.Found.{IsAbsence}
use Rattle.ira_elim.specs.LeastCut.{IsLeastCut}
use Rattle.ira_pred.specs.Case.{Conjunct}
use Rattle.ira_pred.specs.Question.{IsQuestion, QuestionCases}
use Rattle.ira_pred.specs.QuestionText.{IsQuestionText}
use Rattle.ira_audit.proofs.NeverMet.{absent_more}
use Rattle.ira_audit.proofs.Places.{different_places}
use Rattle.ira_audit.specs.AskedQuestion.{AskedQuestion, IsFirstPresent}
use Rattle.ira_audit.specs.Never.{NoCutMeetsAny}
use Rattle.ira_audit.specs.Refusal.{IsQuestionRefusal, MatchRefusal}
use Rattle.ira_audit.specs.declared.refusal.Refusal.{Refusal}
use Rattle.ira_audit.specs.declared.refusal.Refusal.TheVariants as refusal
use Rattle.ira_view_moment.specs.ChosenMoment.{cut_of}
use Rattle.ira_view_moment.specs.declared.chosen_moment.ChosenMoment.{ChosenMoment}
use Rattle.ira_view_moment.specs.declared.chosen_moment.ChosenMoment.TheVariants.{AtEnd, AtCut, OfCase, Unmet}
use Rattle.ira_view_moment.specs.Told.{told_of}
use Rattle.ira_view_show.specs.EventsText.{TellsEventsOf}
use Rattle.ira_view_show.specs.MomentText.{TellsChosen}
use Rattle.ira_view.specs.FirstCut.{IsNotLookedFor, IsPresent}
use Rattle.ira_view.specs.declared.ring_fault.RingFault.{RingFault}
use Rattle.ira_view.specs.declared.ring_fault.RingFault.TheVariants as fault
use Rattle.ira_view.specs.ShownRing.{IsNoQuestion, TellsEventsAt, TellsMomentOf, refusal_fault}

-- no cut meets a case that a section shows absent
pub absent_case : (asked : AskedQuestion) (number : ℕ) (section : Section) → IsQuestion asked.question
    → number < length asked.question.cases
    → ((case : List Conjunct) → slice_get asked.question.cases number ≡ Some case → IsAbsence asked.logs case section)
    → IsPresent asked (Some number) None
absent_case asked number section valid within is =
    elim (slice_get_cases asked.question.cases number).1 [
      | inl some ↦ (
        some.0,
        some.2,
        absent_more asked.logs [] some.0 section (different_places asked.question valid number some.0 some.2)
            (λ none cut has consistent. absurd (omega (arith, has.1))) (is some.0 some.2),
      )
      | inr far ↦ absurd (omega (arith, far.0, within))
    ]

-- a case that its least cut meets
pub met_case : (asked : AskedQuestion) (number : ℕ) (cut : List ℕ) → number < length asked.question.cases
    → ((case : List Conjunct) → slice_get asked.question.cases number ≡ Some case → IsLeastCut asked.logs case cut)
    → IsPresent asked (Some number) (Some (number, cut))
met_case asked number cut within least =
    elim (slice_get_cases asked.question.cases number).1 [
      | inl some ↦
          (let met = least some.0 some.2 in (within, met.consistent, ((some.0, some.2, met), refl)))
      | inr far ↦ absurd (omega (arith, far.0, within))
    ]

-- the first case that any cut meets
pub any_case : (asked : AskedQuestion) (found : Option (ℕ × List ℕ))
    → MatchOption found (NoCutMeetsAny asked.logs asked.question.cases)
    (λ first. IsFirstPresent asked.logs asked.question.cases first.0 first.1)
    → IsPresent asked None found
any_case asked None never = never
any_case asked (Some found) first = (
  slice_get_within asked.question.cases found.0 first.case first.case_at,
  first.least.consistent,
  (found.0, first, refl),
)

-- why a question is refused is why there is no moment of it
pub no_question : {T : Type 0} (P : T → Type 0) (logs : List Log) (text : List ℕ) (case : Option ℕ) (r : Refusal)
    → MatchRefusal {T = T} (Err r) P (IsQuestionRefusal text (length logs)) → IsNoQuestion logs text case (refusal_fault r)
no_question P logs text case (refusal.No reason) h = h
no_question P logs text case refusal.OutOfMemory h = tt

-- why no moment of a ring's question is looked for is why there is none
pub no_moment : (logs : List Log) (text : List ℕ) (asked : QuestionCases) (case : Option ℕ) (f : RingFault)
    → IsQuestionText text asked → asked.nodes ≡ length logs → IsNotLookedFor asked.cases case f
    → IsNoQuestion logs text case f
no_moment logs text asked case (fault.No r) is nodes h = absurd h
no_moment logs text asked case (fault.Cut f) is nodes h = absurd h
no_moment logs text asked case fault.NoCase is nodes h = (asked, is, nodes, h)
no_moment logs text asked case fault.OutOfMemory is nodes h = tt

-- what is told of a moment, by its cut and which one it is
pub page_of : {A : Type 0} (logs : List Log) (moment : ChosenMoment A) (text : List ℕ) → TellsChosen logs moment text
    → TellsMomentOf logs (cut_of logs moment) (told_of moment) text
page_of logs AtEnd text h = h
page_of logs (AtCut events) text h = h
page_of logs (OfCase question number events) text h = h
page_of logs (Unmet case) text h = h

pub events_of : {A : Type 0} (logs : List Log) (moment : ChosenMoment A) (text : List ℕ)
    → TellsEventsOf logs moment text → TellsEventsAt logs (cut_of logs moment) (told_of moment) text
events_of logs AtEnd text h = h
events_of logs (AtCut events) text h = h
events_of logs (OfCase question number events) text h = h
events_of logs (Unmet case) text h = h
