-- Texts of logs, of a question and of a certificate have at most one answer.
use Rattle.std.proofs.Common.{◌≡◌, ◌≢◌, ℕ, List, Some, length, refl, sym, ap, ◌∙◌, inl, inr}
use Rattle.std.specs.Prelude.{slice_get}
use Rattle.std.proofs.lemmas.Slice.Zip.{AllZip-long}
use Rattle.ira_event.specs.Log.{Log}
use Rattle.ira_pred.specs.Case.{Conjunct}
use Rattle.ira_pred.specs.Question.{QuestionCases}
use Rattle.ira_cert_text.specs.Certificate.{Section, Certificate}
use Rattle.ira_cert_text.specs.CertText.{IsCertText}
use Rattle.ira_cert_text.specs.CertTextFault.{CertTextFault}
use Rattle.ira_cert_text.proofs.CertAnswers as cert
use Rattle.ira_cert.specs.declared.section_fault.SectionFault.{SectionFault}
use Rattle.ira_cert.specs.Conjuncts.{HasDifferentPlaces}
use Rattle.ira_audit.specs.declared.reason.Reason.TheVariants as reason
use Rattle.ira_audit.specs.declared.answer.Answer.{Answer}
use Rattle.ira_audit.specs.declared.answer.Answer.TheVariants.{Yes, No}
use Rattle.ira_audit.specs.CheckAnswer.{AreSound, IsFirstUnsound, IsCheckAnswer, not_posed, no_certificate, other_size}
use Rattle.ira_audit.specs.CheckAnswer.{other_number, unsound, yes}
use Rattle.ira_audit.specs.QuestionFitsLogs.{QuestionFitsLogs, WhyNoQuestion}
use Rattle.ira_audit.proofs.OnePosed.{one_reason, posed_or_not, one_posed}
use Rattle.ira_audit.proofs.Places.{different_places}
use Rattle.ira_audit.proofs.SoundSections.{one_first_unsound, sound_or_first_unsound}
use Rattle.ira_audit.proofs.Stages.{Stage, one_of_stage}

-- ---- the stages, the last one first

-- whether the sections are sound
abbrev SoundStage : List Log → List (List Conjunct) → List Section → Answer → Type 0
SoundStage logs cases sections =
    Stage (λ (x : ℕ × SectionFault). IsFirstUnsound logs cases sections x.0 x.1) (λ x. No (reason.Section x.0 x.1))
    (λ (y : Unit {0}). AreSound logs cases sections) (λ y a. a ≡ Yes)

-- whether there are as many sections as cases
abbrev NumberStage : List Log → List (List Conjunct) → List Section → Answer → Type 0
NumberStage logs cases sections =
    Stage (λ (x : Unit {0}). length sections ≢ length cases) (λ x.
    No (reason.Sections (length cases) (length sections)))
    (λ (y : Unit {0}). length sections ≡ length cases) (λ y. SoundStage logs cases sections)

-- whether the certificate is for the ring
abbrev SizeStage : List Log → List (List Conjunct) → Certificate → Answer → Type 0
SizeStage logs cases c =
    Stage (λ (x : Unit {0}). c.nodes ≢ length logs) (λ x. No reason.CertificateSize)
    (λ (y : Unit {0}). c.nodes ≡ length logs) (λ y. NumberStage logs cases c.sections)

-- whether the text is a certificate's
abbrev CertificateStage : List ℕ → List Log → List (List Conjunct) → Answer → Type 0
CertificateStage certificate logs cases =
    Stage (CertTextFault certificate) (λ f. No (reason.Certificate f)) (IsCertText certificate) (SizeStage logs cases)

-- whether the question is posed
abbrev PosedStage : List (List ℕ) → List ℕ → List ℕ → Answer → Type 0
PosedStage texts question certificate =
    Stage (WhyNoQuestion texts question) No (λ (y : List Log × QuestionCases). QuestionFitsLogs texts question y.0 y.1)
    (λ y.
    CertificateStage certificate y.0 y.1.cases)

-- an answer is one of the stages
staged : (texts : List (List ℕ)) (question certificate : List ℕ) (a : Answer)
    → IsCheckAnswer texts question certificate a → PosedStage texts question certificate a
staged texts question certificate a (not_posed r h e) = inl (r, h, e)
staged texts question certificate a (no_certificate logs asked f p h e) = inr ((logs, asked), p, inl (f, h, e))
staged texts question certificate a (other_size logs asked c p is other e) =
    inr ((logs, asked), p, inr (c, is, inl (tt, other, e)))
staged texts question certificate a (other_number logs asked c p is size other e) =
    inr ((logs, asked), p, inr (c, is, inr (tt, size, inl (tt, other, e))))
staged texts question certificate a (unsound logs asked c i f p is size number h e) =
    inr ((logs, asked), p, inr (c, is, inr (tt, size, inr (tt, number, inl ((i, f), h, e)))))
staged texts question certificate a (yes logs asked c p is size sound e) =
    inr ((logs, asked), p, inr (c, is, inr (tt, size, inr (tt, AllZip-long _ _ _ sound, inr (tt, sound, e)))))

-- ---- each stage has one answer

one_unit : (x y : Unit {0}) → x ≡ y
one_unit x y = refl

one_sound : (logs : List Log) (cases : List (List Conjunct)) (sections : List Section)
    → ((i : ℕ) (case : List Conjunct) → slice_get cases i ≡ Some case → HasDifferentPlaces case)
    → (a b : Answer) → SoundStage logs cases sections a → SoundStage logs cases sections b → a ≡ b
one_sound logs cases sections differ = one_of_stage _ _ _ _
    (λ x z h k. let same = one_first_unsound logs cases sections differ x.0 z.0 x.1 z.1 h k in
    ap (λ i. (i, x.1)) same.0 ∙ ap (λ f. (z.0, f)) same.1)
    (λ x y h sound. sound_or_first_unsound logs cases sections differ x.0 x.1 h sound)
    (λ y z h k. one_unit y z)
    (λ y a b h e d. e ∙ sym d)

module _ (logs : List Log) (cases : List (List Conjunct)) (differ : (i : ℕ) (case : List Conjunct)
    → slice_get cases i ≡ Some case → HasDifferentPlaces case) where
  one_number : (sections : List Section) (a b : Answer) → NumberStage logs cases sections a
      → NumberStage logs cases sections b → a ≡ b
  one_number sections = one_of_stage _ _ _ _ (λ x z h k. one_unit x z) (λ x y other same. other same) (λ y z h k.
      one_unit y z) (λ y a b h. one_sound logs cases sections differ a b)

  one_size : (c : Certificate) (a b : Answer) → SizeStage logs cases c a → SizeStage logs cases c b → a ≡ b
  one_size c = one_of_stage _ _ _ _ (λ x z h k. one_unit x z) (λ x y other same. other same) (λ y z h k.
      one_unit y z) (λ y a b h. one_number c.sections a b)

  one_certificate : (certificate : List ℕ) (a b : Answer) → CertificateStage certificate logs cases a
      → CertificateStage certificate logs cases b → a ≡ b
  one_certificate certificate =
      one_of_stage _ _ _ _ (cert.one_fault certificate) (λ f c h is.
      cert.certificate_or_fault certificate c f is h) (cert.one_certificate certificate) (λ c a b h. one_size c a b)

pub one_audit_answer : (texts : List (List ℕ)) (question certificate : List ℕ) (a b : Answer)
    → IsCheckAnswer texts question certificate a → IsCheckAnswer texts question certificate b → a ≡ b
one_audit_answer texts question certificate a b h k =
    one_of_stage _ _ _ _ (one_reason texts question) (λ r y bad p. posed_or_not texts question r y.0 y.1 bad p)
    (λ y z p q. let same = one_posed texts question y.0 z.0 y.1 z.1 p q in
    ap (λ logs. (logs, y.1)) same.0 ∙ ap (λ asked. (z.0, asked)) same.1)
    (λ y x z p. one_certificate y.0 y.1.cases (different_places y.1 p.question_is.valid) certificate x z) a b
    (staged texts question certificate a h) (staged texts question certificate b k)
