-- What is answered where a text of logs, of a question or of a certificate is refused.
use Rattle.std.proofs.Common.{◌≡◌, ◌≢◌, ◌∙◌, ℕ, List, length, IfOk, Result, Ok, Err, ap, inl, inr, refl, subst, sym}
use Rattle.ira_event.specs.declared.log_fault.LogFault.{LogFault}
use Rattle.ira_event.specs.declared.head_fault.HeadFault.{HeadFault}
use Rattle.ira_event.specs.Log as log
use Rattle.ira_event.specs.Logs.{HeadFaultOf}
use Rattle.ira_pred.specs.declared.ask_fault.AskFault.{AskFault}
use Rattle.ira_pred.specs.declared.ask_fault.AskFault.TheVariants as ask
use Rattle.ira_pred.specs.Question.{QuestionCases}
use Rattle.ira_pred.specs.QuestionText.{IsQuestionText}
use Rattle.ira_pred.specs.QuestionTextFault.{QuestionTextFault}
use Rattle.ira_cert_text.specs.declared.cert_fault.CertFault.{CertFault}
use Rattle.ira_cert_text.specs.declared.cert_fault.CertFault.TheVariants as cert
use Rattle.ira_cert_text.specs.Certificate.{Certificate}
use Rattle.ira_cert_text.specs.CertText.{IsCertText}
use Rattle.ira_cert_text.specs.CertTextFault.{CertTextFault}
use Rattle.ira_audit.specs.declared.reason.Reason.{Reason}
use Rattle.ira_audit.specs.declared.reason.Reason.TheVariants.{Heads, Log}
use Rattle.ira_audit.specs.declared.refusal.Refusal.{Refusal}
use Rattle.ira_audit.specs.declared.refusal.Refusal.TheVariants as refusal
use Rattle.ira_audit.specs.declared.answer.Answer.{Answer}
use Rattle.ira_audit.specs.declared.answer.Answer.TheVariants.{No}
use Rattle.ira_audit.specs.CheckAnswer.{AreSound, IsCheckAnswer, not_posed}
use Rattle.ira_audit.specs.CheckAnswer as answer
use Rattle.ira_audit.specs.AskedQuestion.{AskedQuestion}
use Rattle.ira_audit.specs.GoodLogs.{AreGoodLogs}
use Rattle.ira_audit.specs.LogTexts.{AreLogTexts, IsFirstTextFault}
use Rattle.ira_audit.specs.RingAnswer.{no_log, no_ring}
use Rattle.ira_audit.specs.QuestionFitsLogs.{QuestionFitsLogs, bad_logs, no_question, other_ring}
use Rattle.ira_audit.specs.Refusal.{IsLogsReason, IsSectionsRefusal, MatchRefusal, RefusesCertificate, RefusesQuestion}
use Rattle.ira_audit.specs.Refusal.{answered, IsRingReason, IsFindingsReason, IsQuestionRefusal, IsCertificateRefusal}
use Rattle.ira_audit.specs.Report.{IsReportable, IsReportableReason}
use Rattle.ira_audit.proofs.Replaying.{text_fault_other}

-- a text is no log's
pub text_reason : (texts : List (List ℕ)) (number : ℕ) (f : LogFault) → IsFirstTextFault texts number f
    → IsRingReason texts (Log number f)
text_reason texts number f first = (no_log number f first refl, tt, text_fault_other first.text f first.fault)

-- the logs are no ring's
pub heads_refused : {T : Type 0} (P : T → Type 0) (texts : List (List ℕ)) (logs : List log.Log) (r : Result T Refusal)
    (f : HeadFault) → AreLogTexts texts logs → r ≡ Err (refusal.No (Heads f)) → HeadFaultOf logs f
    → MatchRefusal r P (IsRingReason texts)
heads_refused P texts logs r f are is h = rw is (no_ring logs f are h refl, tt, tt)

-- a reason against the logs is one against a question about them
pub logs_reason : (texts : List (List ℕ)) (question : List ℕ) (r : Reason) → IsLogsReason texts r
    → IsFindingsReason texts question r
logs_reason texts question r h = (bad_logs h.0, h.1)

-- why a question isn't posed is said of it with a certificate
pub findings_reason : (texts : List (List ℕ)) (question certificate : List ℕ) (r : Reason)
    → IsFindingsReason texts question r → IsCheckAnswer texts question certificate (No r) × IsReportableReason r
findings_reason texts question certificate r h = (not_posed r h.0 refl, h.1)

-- a refusal that is handed on
pub handed_on : {T U : Type 0} (P : T → Type 0) (Q : Reason → Type 0) (S : Answer
    → Type 0) (r : Result U Refusal) (s : Refusal) → r ≡ Err s → MatchRefusal {T = T} (Err s) P Q
    → ((x : Reason) → Q x → S (No x) × IsReportableReason x) → IfOk (answered r) (λ a. S a × IsReportable a)
handed_on P Q S r (refusal.No x) is h so = rw is (so x h)
handed_on P Q S r refusal.OutOfMemory is h so = rw is tt

pub refused_again : {T U : Type 0} (P : T → Type 0) (Q : Reason → Type 0) (S : U → Type 0) (V : Reason
    → Type 0) (r : Result U Refusal) (s : Refusal) → r ≡ Err s → MatchRefusal {T = T} (Err s) P Q
    → ((x : Reason) → Q x → V x) → MatchRefusal r S V
refused_again P Q S V r (refusal.No x) is h so = rw is (so x h)
refused_again P Q S V r refusal.OutOfMemory is h so = rw is tt

-- a text is no question's
pub question_refused : {T : Type 0} (P : T
    → Type 0) (text : List ℕ) (nodes : ℕ) (r : Result T Refusal) (s : Refusal) (f : AskFault) → r ≡ Err s
    → RefusesQuestion f s → (f ≢ ask.OutOfMemory → QuestionTextFault text f)
    → MatchRefusal r P (IsQuestionRefusal text nodes)
question_refused P text nodes r s f is (inl h) fault = rw (is, h.1) tt
question_refused P text nodes r s f is (inr h) fault = rw (is, h.1) (inl (f, fault h.0, h.0, refl))

-- a text is no certificate's
pub certificate_refused : {T : Type 0} (P : T
    → Type 0) (text : List ℕ) (nodes : ℕ) (r : Result T Refusal) (s : Refusal) (f : CertFault) → r ≡ Err s
    → RefusesCertificate f s → (f ≢ cert.OutOfMemory → CertTextFault text f)
    → MatchRefusal r P (IsCertificateRefusal text nodes)
certificate_refused P text nodes r s f is (inl h) fault = rw (is, h.1) tt
certificate_refused P text nodes r s f is (inr h) fault = rw (is, h.1) (inl (f, fault h.0, h.0, refl))

-- ---- where nothing is said against the logs

pub question_reason : (texts : List (List ℕ)) (question : List ℕ) (logs : List log.Log) → AreGoodLogs texts logs
    → (r : Reason) → IsQuestionRefusal question (length logs) r → IsFindingsReason texts question r
question_reason texts question logs good r (inl h) = rw h.3 (no_question logs h.0 good h.1 refl, h.2)
question_reason texts question logs good r (inr h) = rw h.3 (other_ring logs h.0 good h.1 h.2 refl, tt)

-- what comes of a question about good logs is what comes of it about their texts
pub asked_of_texts : (texts : List (List ℕ)) (question : List ℕ) (logs : List log.Log) → AreGoodLogs texts logs
    → (r : Result AskedQuestion Refusal)
    → MatchRefusal r (λ asked. (asked.logs ≡ logs) × IsQuestionText question asked.question
    × (asked.question.nodes ≡ length logs)) (IsQuestionRefusal question (length logs))
    → MatchRefusal r (λ asked. QuestionFitsLogs texts question asked.logs asked.question)
    (IsFindingsReason texts question)
asked_of_texts texts question logs good (Ok asked) h = record {
  logs_are = subst (AreGoodLogs texts) (sym h.0) good;
  question_is = h.1;
  ring = h.2 ∙ ap (λ (ls : List log.Log). length ls) (sym h.0);
}
asked_of_texts texts question logs good (Err (refusal.No r)) h = question_reason texts question logs good r h
asked_of_texts texts question logs good (Err refusal.OutOfMemory) h = tt

module _ (texts : List (List ℕ)) (question certificate : List ℕ) (logs : List log.Log) (asked : QuestionCases)
    (posed : QuestionFitsLogs texts question logs asked) where
  pub certificate_reason : (r : Reason) → IsCertificateRefusal certificate (length logs) r
      → IsCheckAnswer texts question certificate (No r) × IsReportableReason r
  certificate_reason r (inl h) = rw h.3 (answer.no_certificate logs asked h.0 posed h.1 refl, h.2)
  certificate_reason r (inr h) = rw h.3 (answer.other_size logs asked h.0 posed h.1 h.2 refl, tt)

  -- the sections are sound, or this is why not
  pub sections_judged : (c : Certificate) → IsCertText certificate c → c.nodes ≡ length logs
      → (r : Result (Unit {0}) Refusal)
      → MatchRefusal r (λ _. AreSound logs asked.cases c.sections) (IsSectionsRefusal logs asked.cases c.sections)
      → IfOk (answered r) (λ a. IsCheckAnswer texts question certificate a × IsReportable a)
  sections_judged c is size (Ok done) h = (answer.yes logs asked c posed is size h refl, tt)
  sections_judged c is size (Err (refusal.No x)) (inl h) =
      rw h.1 (answer.other_number logs asked c posed is size h.0 refl, tt)
  sections_judged c is size (Err (refusal.No x)) (inr h) =
      rw h.3 (answer.unsound logs asked c h.1 h.2 posed is size h.0 h.4 refl, tt)
  sections_judged c is size (Err refusal.OutOfMemory) h = tt
