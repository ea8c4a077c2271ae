-- The line that is written of an answer.
use Rattle.std.specs.Prelude.{◌≢◌, ℕ, List, ◌++◌, codes, decimal, ⊤}
use Rattle.ira_event.specs.declared.log_fault.LogFault.TheVariants.{OutOfMemory}
use Rattle.ira_event.specs.FaultWords.{said_text}
use Rattle.ira_event.specs.HeadFault.{head_fault_words}
use Rattle.ira_event.specs.LogFault.{log_fault_words}
use Rattle.ira_node.specs.StepFault.{step_fault_words}
use Rattle.ira_order.specs.declared.match_fault.MatchFault.{MatchFault}
use Rattle.ira_order.specs.declared.match_fault.MatchFault.TheVariants.{NoSending, Differs}
use Rattle.ira_order.specs.MatchWords.{match_fault_words}
use Rattle.ira_pred.specs.declared.ask_fault.AskFault.TheVariants as ask
use Rattle.ira_pred.specs.AskFault.{ask_fault_words}
use Rattle.ira_cert_text.specs.declared.cert_fault.CertFault.TheVariants as cert
use Rattle.ira_cert_text.specs.CertFault.{cert_fault_words}
use Rattle.ira_cert.specs.declared.section_fault.SectionFault.{SectionFault}
use Rattle.ira_cert.specs.declared.section_fault.SectionFault.TheVariants.{Step, NotSpent}
use Rattle.ira_cert.specs.Unsound.{unsound_words}
use Rattle.ira_audit.specs.declared.reason.Reason.{Reason}
use Rattle.ira_audit.specs.declared.reason.Reason.TheVariants.{Log, Heads, Match, Circle, Replay, Question}
use Rattle.ira_audit.specs.declared.reason.Reason.TheVariants.{QuestionSize, Certificate, CertificateSize, Sections}
use Rattle.ira_audit.specs.declared.reason.Reason.TheVariants.{Section}
use Rattle.ira_audit.specs.declared.answer.Answer.{Answer}
use Rattle.ira_audit.specs.declared.answer.Answer.TheVariants.{Yes, No}

-- the words, and a number after them
abbrev pub numbered : List ℕ → ℕ → List ℕ
numbered words n = words ++ decimal n

-- a reason that speaks of receipt k of link i, with what is wrong with it
abbrev pub receipt_words : ℕ → ℕ → List ℕ → List ℕ
receipt_words i k words = numbered (codes "no: link ") i ++ numbered (codes ": receipt ") k ++ codes " " ++ words

-- the reason that logs don't match, in words
abbrev pub match_reason_words : MatchFault → List ℕ
match_reason_words (NoSending link k) = receipt_words link k (match_fault_words (NoSending link k))
match_reason_words (Differs link k) = receipt_words link k (match_fault_words (Differs link k))

-- why the section of a case isn't sound, in words
abbrev pub section_reason_words : ℕ → SectionFault → List ℕ
section_reason_words case (Step k why) =
    numbered (codes "no: case ") case ++ numbered (codes ": step ") k ++ codes ": " ++ unsound_words why
section_reason_words case (NotSpent node) =
    numbered (codes "no: case ") case ++ numbered (codes ": node ") node ++ codes " not spent"

-- the reason in words
abbrev pub reason_words : Reason → List ℕ
reason_words (Log number fault) = numbered (codes "no: log ") number ++ codes ": " ++ said_text (log_fault_words fault)
reason_words (Heads fault) = codes "no: heads: " ++ said_text (head_fault_words fault)
reason_words (Match fault) = match_reason_words fault
reason_words Circle = codes "no: circle"
reason_words (Replay place position fault) =
    numbered (codes "no: node ") place ++ numbered (codes ": event ") position ++ codes ": " ++ step_fault_words fault
reason_words (Question fault) = codes "no: question: " ++ said_text (ask_fault_words fault)
reason_words QuestionSize = codes "no: question: other ring size"
reason_words (Certificate fault) = codes "no: certificate: " ++ said_text (cert_fault_words fault)
reason_words CertificateSize = codes "no: certificate: other ring size"
reason_words (Sections wanted found) =
    numbered (codes "no: sections: ") wanted ++ numbered (codes " wanted, ") found ++ codes " found"
reason_words (Section case fault) = section_reason_words case fault

-- the line of an answer
abbrev pub report_line : Answer → List ℕ
report_line Yes = codes "yes\n"
report_line (No reason) = reason_words reason ++ codes "\n"

-- the reason doesn't say that memory ran out
abbrev pub IsReportableReason : Reason → Type 0
IsReportableReason (Log number fault) = fault ≢ OutOfMemory
IsReportableReason (Heads fault) = ⊤
IsReportableReason (Match fault) = ⊤
IsReportableReason Circle = ⊤
IsReportableReason (Replay place position fault) = ⊤
IsReportableReason (Question fault) = fault ≢ ask.OutOfMemory
IsReportableReason QuestionSize = ⊤
IsReportableReason (Certificate fault) = fault ≢ cert.OutOfMemory
IsReportableReason CertificateSize = ⊤
IsReportableReason (Sections wanted found) = ⊤
IsReportableReason (Section case fault) = ⊤

-- the answer doesn't say that memory ran out
abbrev pub IsReportable : Answer → Type 0
IsReportable Yes = ⊤
IsReportable (No reason) = IsReportableReason reason
