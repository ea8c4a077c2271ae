-- Why there is no yes, where a call hands on more than an answer.
use Rattle.std.specs.Prelude.{◌≡◌, ◌≢◌, ◌⊎◌, ℕ, List, Result, Ok, Err, length, ⊤}
use Rattle.ira_event.specs.declared.out_of_memory.OutOfMemory as memory
use Rattle.ira_event.specs.Log as log
use Rattle.ira_pred.specs.declared.ask_fault.AskFault.{AskFault}
use Rattle.ira_pred.specs.declared.ask_fault.AskFault.TheVariants as ask
use Rattle.ira_pred.specs.Case.{Conjunct}
use Rattle.ira_pred.specs.Question.{QuestionCases}
use Rattle.ira_pred.specs.QuestionText.{IsQuestionText}
use Rattle.ira_pred.specs.QuestionTextFault.{QuestionTextFault}
use Rattle.ira_cert_text.specs.declared.cert_fault.CertFault.{CertFault}
use Rattle.ira_cert_text.specs.declared.cert_fault.CertFault.TheVariants as cert
use Rattle.ira_cert_text.specs.Certificate as certificate
use Rattle.ira_cert_text.specs.CertText.{IsCertText}
use Rattle.ira_cert_text.specs.CertTextFault.{CertTextFault}
use Rattle.ira_cert.specs.declared.section_fault.SectionFault.{SectionFault}
use Rattle.ira_audit.specs.declared.reason.Reason.{Reason}
use Rattle.ira_audit.specs.declared.reason.Reason.TheVariants.{Log, Heads, Question, QuestionSize}
use Rattle.ira_audit.specs.declared.reason.Reason.TheVariants.{Certificate, CertificateSize, Section, Sections}
use Rattle.ira_audit.specs.declared.refusal.Refusal.{Refusal}
use Rattle.ira_audit.specs.declared.refusal.Refusal.TheVariants.{No, OutOfMemory}
use Rattle.ira_audit.specs.declared.answer.Answer.{Answer}
use Rattle.ira_audit.specs.declared.answer.Answer.TheVariants as answer
use Rattle.ira_audit.specs.CheckAnswer.{IsFirstUnsound}
use Rattle.ira_audit.specs.RingAnswer.{IsRingAnswer}
use Rattle.ira_audit.specs.QuestionFitsLogs.{WhyNoQuestion}
use Rattle.ira_audit.specs.Report.{IsReportableReason}

-- the refusal of a text that is no question's: out of memory is no fault of the text
abbrev pub RefusesQuestion : AskFault → Refusal → Type 0
RefusesQuestion f r = ((f ≡ ask.OutOfMemory) × (r ≡ OutOfMemory)) ⊎ ((f ≢ ask.OutOfMemory) × (r ≡ No (Question f)))

-- the refusal of a text that is no certificate's
abbrev pub RefusesCertificate : CertFault → Refusal → Type 0
RefusesCertificate f r = ((f ≡ cert.OutOfMemory) × (r ≡ OutOfMemory))
    ⊎ ((f ≢ cert.OutOfMemory) × (r ≡ No (Certificate f)))

-- the answer of texts that were judged
abbrev pub answered : {T : Type 0} → Result T Refusal → Result Answer memory.OutOfMemory
answered (Ok _) = Ok answer.Yes
answered (Err (No reason)) = Ok (answer.No reason)
answered (Err OutOfMemory) = Err (record {})

-- where memory ran out, nothing is said; else the one fact holds of the value, or the other of the
-- reason
abbrev pub MatchRefusal : {T : Type 0} → Result T Refusal → (T → Type 0) → (Reason → Type 0) → Type 0
MatchRefusal (Ok v) P Q = P v
MatchRefusal (Err (No reason)) P Q = Q reason
MatchRefusal (Err OutOfMemory) P Q = ⊤

-- the reason is the answer of the texts of logs, and doesn't say that memory ran out
abbrev pub IsLogsReason : List (List ℕ) → Reason → Type 0
IsLogsReason texts r = IsRingAnswer texts (answer.No r) × IsReportableReason r

-- the reason is one of a text or of heads, which are looked for before any event is
abbrev pub IsTextOrHeadsReason : Reason → Type 0
IsTextOrHeadsReason (Log number f) = ⊤
IsTextOrHeadsReason (Heads f) = ⊤
IsTextOrHeadsReason _ = ⊥

-- the reason is the answer of texts that aren't those of the logs of one ring, and doesn't say that memory ran out
abbrev pub IsRingReason : List (List ℕ) → Reason → Type 0
IsRingReason texts r = IsRingAnswer texts (answer.No r) × IsTextOrHeadsReason r × IsReportableReason r

-- the reason is why the question isn't posed, and doesn't say that memory ran out
abbrev pub IsFindingsReason : List (List ℕ) → List ℕ → Reason → Type 0
IsFindingsReason texts question r = WhyNoQuestion texts question r × IsReportableReason r

-- why the text isn't that of a question asked of a ring of so many nodes
abbrev pub IsQuestionRefusal : List ℕ → ℕ → Reason → Type 0
IsQuestionRefusal text nodes r =
    ((f : AskFault) × QuestionTextFault text f × (f ≢ ask.OutOfMemory) × (r ≡ Question f))
    ⊎ ((asked : QuestionCases) × IsQuestionText text asked × (asked.nodes ≢ nodes) × (r ≡ QuestionSize))

-- why the text isn't that of a certificate for a ring of so many nodes
abbrev pub IsCertificateRefusal : List ℕ → ℕ → Reason → Type 0
IsCertificateRefusal text nodes r =
    ((f : CertFault) × CertTextFault text f × (f ≢ cert.OutOfMemory) × (r ≡ Certificate f))
    ⊎ ((c : certificate.Certificate) × IsCertText text c × (c.nodes ≢ nodes) × (r ≡ CertificateSize))

-- why sections aren't sound for cases, one for each: their number, or the first that isn't
abbrev pub IsSectionsRefusal : List log.Log → List (List Conjunct) → List certificate.Section → Reason → Type 0
IsSectionsRefusal logs cases sections r =
    ((length sections ≢ length cases) × (r ≡ Sections (length cases) (length sections)))
    ⊎ ((length sections ≡ length cases) × (i : ℕ) × (f : SectionFault) × (r ≡ Section i f)
    × IsFirstUnsound logs cases sections i f)
