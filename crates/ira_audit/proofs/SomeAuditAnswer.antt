-- Texts have an answer, where a question and a certificate stand beside those of the logs.
use Rattle.std.proofs.Common.{◌≡◌, ◌⊎◌, inl, inr, ℕ, suc, List, [], ◌∷◌, Some, length, refl, arith}
use Rattle.std.specs.Prelude.{slice_get}
use Rattle.ira_event.specs.Log.{Log}
use Rattle.ira_order.specs.Circle.{HasOrder}
use Rattle.std.proofs.lemmas.Bool.{cases_eq}
use Rattle.ira_pred.specs.Case.{Conjunct}
use Rattle.ira_pred.specs.Question.{QuestionCases}
use Rattle.ira_pred.proofs.EachText.{each_text}
use Rattle.ira_cert_text.specs.Certificate.{Section}
use Rattle.ira_cert_text.proofs.TextsAnswered.{each_answered}
use Rattle.ira_cert.specs.declared.section_fault.SectionFault.{SectionFault}
use Rattle.ira_cert.specs.declared.verdict.Verdict.{Verdict}
use Rattle.ira_cert.specs.declared.verdict.Verdict.TheVariants as verdict
use Rattle.ira_cert.specs.Conjuncts.{HasDifferentPlaces, HasPlacesOf}
use Rattle.ira_cert.specs.SectionFault.{IsSectionFault}
use Rattle.ira_cert.specs.SoundSection.{IsSoundSection}
use Rattle.ira_cert.specs.Verdict.{IsVerdict}
use Rattle.ira_cert.proofs.FoundVerdict.{verdict_of_ordered}
use Rattle.ira_audit.specs.declared.reason.Reason.TheVariants as reason
use Rattle.ira_audit.specs.declared.answer.Answer.{Answer}
use Rattle.ira_audit.specs.declared.answer.Answer.TheVariants.{Yes, No}
use Rattle.ira_audit.specs.GoodLogs.{AreGoodLogs}
use Rattle.ira_audit.specs.QuestionFitsLogs.{QuestionFitsLogs, bad_logs, no_question, other_ring}
use Rattle.ira_audit.specs.CheckAnswer.{AreSound, IsFirstUnsound, IsCheckAnswer, not_posed, no_certificate, other_size}
use Rattle.ira_audit.specs.CheckAnswer.{other_number, unsound, yes}
use Rattle.ira_audit.proofs.Places.{different_places, places_of_logs}
use Rattle.ira_audit.proofs.SomeLogsAnswer.{bad_or_good}

sound_or_fault : (logs : List Log) (case : List Conjunct) (section : Section) → HasOrder logs → HasDifferentPlaces case
    → HasPlacesOf logs case → IsSoundSection logs case section
    ⊎ ((f : SectionFault) × IsSectionFault logs case section f)
sound_or_fault logs case section order differ places = by_verdict found.0 found.1
  where
    found : (a : Verdict) × IsVerdict logs case section a
    found = verdict_of_ordered logs case section order differ places

    by_verdict : (a : Verdict) → IsVerdict logs case section a → IsSoundSection logs case section
        ⊎ ((f : SectionFault) × IsSectionFault logs case section f)
    by_verdict verdict.Yes is = inl is
    by_verdict (verdict.No f) is = inr (f, is)

-- as many sections as cases are sound, or one is the first that isn't
sound_or_first : (logs : List Log) (cases : List (List Conjunct)) (sections : List Section) → HasOrder logs
    → ((i : ℕ) (case : List Conjunct) → slice_get cases i ≡ Some case → HasDifferentPlaces case)
    → ((i : ℕ) (case : List Conjunct) → slice_get cases i ≡ Some case → HasPlacesOf logs case)
    → length sections ≡ length cases → AreSound logs cases sections
    ⊎ ((i : ℕ) × (f : SectionFault) × IsFirstUnsound logs cases sections i f)
sound_or_first logs [] [] order differ places many = inl tt
sound_or_first logs [] (s ∷ sections) order differ places many = absurd (omega arith)
sound_or_first logs (c ∷ cases) [] order differ places many = absurd (omega arith)
sound_or_first logs (c ∷ cases) (s ∷ sections) order differ places many =
    elim (sound_or_fault logs c s order (differ 0 c refl) (places 0 c refl)) [
      | inr h ↦ inr (
        0,
        h.0,
        record {
          before = tt;
          case = c;
          case_at = refl;
          section = s;
          section_at = refl;
          fault = h.1;
        },
      )
      | inl sound ↦ elim (sound_or_first logs cases sections order (λ i. differ (suc i)) (λ i.
          places (suc i)) (omega arith)) [
            | inl all ↦ inl (sound, all)
            | inr h ↦ inr (
              suc h.0,
              h.1,
              record {
                before = (sound, h.2.before);
                case = h.2.case;
                case_at = h.2.case_at;
                section = h.2.section;
                section_at = h.2.section_at;
                fault = h.2.fault;
              },
            )
          ]
    ]

module _ (texts : List (List ℕ)) (question certificate : List ℕ) where
  HasAnswer : Type 0
  HasAnswer = (a : Answer) × IsCheckAnswer texts question certificate a

  of_certificate : (logs : List Log) (asked : QuestionCases) → QuestionFitsLogs texts question logs asked → HasAnswer
  unfolding HasAnswer
  of_certificate logs asked posed = elim (each_answered certificate) [
    | inr h ↦ (No (reason.Certificate h.0), no_certificate logs asked h.0 posed h.1 refl)
    | inl c ↦ elim (cases_eq c.0.nodes (length logs)) [
      | inr other ↦ (No reason.CertificateSize, other_size logs asked c.0 posed c.1 other refl)
      | inl size ↦ elim (cases_eq (length c.0.sections) (length asked.cases)) [
        | inr other ↦ (
          No (reason.Sections (length asked.cases) (length c.0.sections)),
          other_number logs asked c.0 posed c.1 size other refl,
        )
        | inl number ↦ elim (sound_or_first logs asked.cases c.0.sections posed.logs_are.are_good.order
            (different_places asked posed.question_is.valid)
            (places_of_logs asked logs posed.question_is.valid posed.ring) number) [
              | inr h ↦ (No (reason.Section h.0 h.1), unsound logs asked c.0 h.0 h.1 posed c.1 size number h.2 refl)
              | inl sound ↦ (Yes, yes logs asked c.0 posed c.1 size sound refl)
            ]
      ]
    ]
  ]

  of_question : (logs : List Log) → AreGoodLogs texts logs → HasAnswer
  unfolding HasAnswer
  of_question logs good = elim (each_text question) [
    | inr h ↦ (No (reason.Question h.0), not_posed (reason.Question h.0) (no_question logs h.0 good h.1 refl) refl)
    | inl q ↦ elim (cases_eq q.0.nodes (length logs)) [
      | inr other ↦ (
        No reason.QuestionSize,
        not_posed reason.QuestionSize (other_ring logs q.0 good q.1 other refl) refl,
      )
      | inl ring ↦ of_certificate logs q.0 (record { logs_are = good; question_is = q.1; ring = ring })
    ]
  ]

  pub some_audit_answer : (a : Answer) × IsCheckAnswer texts question certificate a
  unfolding HasAnswer
  some_audit_answer = elim (bad_or_good texts) [
    | inl bad ↦ (No bad.0, not_posed bad.0 (bad_logs bad.1) refl)
    | inr good ↦ of_question good.0 good.1
  ]
