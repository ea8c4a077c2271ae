-- What is said of texts that should be those of a ring's logs, of a question that should be asked of
-- their ring, and of a certificate that no case of it was ever met: the first reason against them, or yes.
use Rattle.std.specs.Prelude.{◌≡◌, ◌≢◌, ℕ, List, Some, length, slice_get, take}
use Rattle.std.specs.List.{AllZip}
use Rattle.ira_event.specs.Log.{Log}
use Rattle.ira_pred.specs.Case.{Conjunct}
use Rattle.ira_pred.specs.Question.{QuestionCases}
use Rattle.ira_cert_text.specs.declared.cert_fault.CertFault.{CertFault}
use Rattle.ira_cert_text.specs.Certificate.{Section, Certificate}
use Rattle.ira_cert_text.specs.CertText.{IsCertText}
use Rattle.ira_cert_text.specs.CertTextFault.{CertTextFault}
use Rattle.ira_cert.specs.declared.section_fault.SectionFault.{SectionFault}
use Rattle.ira_cert.specs.SectionFault.{IsSectionFault}
use Rattle.ira_cert.specs.SoundSection.{IsSoundSection}
use Rattle.ira_audit.specs.declared.reason.Reason.{Reason}
use Rattle.ira_audit.specs.declared.reason.Reason.TheVariants as reason
use Rattle.ira_audit.specs.declared.answer.Answer.{Answer}
use Rattle.ira_audit.specs.declared.answer.Answer.TheVariants.{Yes, No}
use Rattle.ira_audit.specs.QuestionFitsLogs.{QuestionFitsLogs, WhyNoQuestion}

-- each section is sound for its case, and there are as many sections as cases
abbrev pub AreSound : List Log → List (List Conjunct) → List Section → Type 0
AreSound logs cases sections = AllZip (IsSoundSection logs) cases sections

-- section i, counted from 0, is the first that isn't sound for its case, and this is its fault
pub record IsFirstUnsound (logs : List Log) (cases : List (List Conjunct)) (sections : List Section) (i : ℕ)
    (f : SectionFault) : Type 0 where
  pub before : AreSound logs (take i cases) (take i sections)
  pub case : List Conjunct
  pub case_at : slice_get cases i ≡ Some case
  pub section : Section
  pub section_at : slice_get sections i ≡ Some section
  pub fault : IsSectionFault logs case section f

-- the answer of the texts
pub data IsCheckAnswer (texts : List (List ℕ)) (question certificate : List ℕ) (answer : Answer) : Type 0 where
  -- the question isn't posed
  not_posed : (r : Reason) → WhyNoQuestion texts question r → answer ≡ No r
      → IsCheckAnswer texts question certificate answer
  -- the question is posed, but the certificate's text is none
  no_certificate :
      (logs : List Log) (asked : QuestionCases) (f : CertFault) → QuestionFitsLogs texts question logs asked
      → CertTextFault certificate f
      → answer ≡ No (reason.Certificate f) → IsCheckAnswer texts question certificate answer
  -- the certificate is for another ring
  other_size :
      (logs : List Log) (asked : QuestionCases) (c : Certificate) → QuestionFitsLogs texts question logs asked
      → IsCertText certificate c
      → c.nodes ≢ length logs → answer ≡ No reason.CertificateSize → IsCheckAnswer texts question certificate answer
  -- it has another number of sections than the question has cases
  other_number :
      (logs : List Log) (asked : QuestionCases) (c : Certificate) → QuestionFitsLogs texts question logs asked
      → IsCertText certificate c
      → c.nodes ≡ length logs → length c.sections ≢ length asked.cases
      → answer ≡ No (reason.Sections (length asked.cases) (length c.sections))
      → IsCheckAnswer texts question certificate answer
  -- it has as many, and one of them isn't sound
  unsound :
      (logs : List Log) (asked : QuestionCases) (c : Certificate) (i : ℕ) (f : SectionFault)
      → QuestionFitsLogs texts question logs asked
      → IsCertText certificate c → c.nodes ≡ length logs → length c.sections ≡ length asked.cases
      → IsFirstUnsound logs asked.cases c.sections i f
      → answer ≡ No (reason.Section i f) → IsCheckAnswer texts question certificate answer
  -- each section is sound for its case
  yes :
      (logs : List Log) (asked : QuestionCases) (c : Certificate) → QuestionFitsLogs texts question logs asked
      → IsCertText certificate c
      → c.nodes ≡ length logs → AreSound logs asked.cases c.sections
      → answer ≡ Yes → IsCheckAnswer texts question certificate answer

-- no texts have two answers
abbrev pub NoTextsHaveTwoAuditAnswers : Type 0
NoTextsHaveTwoAuditAnswers =
    (texts : List (List ℕ)) (question certificate : List ℕ) (a b : Answer)
    → IsCheckAnswer texts question certificate a → IsCheckAnswer texts question certificate b → a ≡ b

-- any texts have one
abbrev pub AnyTextsHaveAnAuditAnswer : Type 0
AnyTextsHaveAnAuditAnswer =
    (texts : List (List ℕ)) (question certificate : List ℕ) → (a : Answer) × IsCheckAnswer texts question certificate a
