-- Why a question isn't posed is one reason, and no question is posed that has one.
use Rattle.std.proofs.Common.{◌≡◌, ◌≢◌, ℕ, List, length, refl, ap, ◌∙◌, sym, inl, inr}
use Rattle.ira_event.specs.Log.{Log}
use Rattle.ira_pred.specs.Question.{QuestionCases}
use Rattle.ira_pred.specs.QuestionText.{IsQuestionText}
use Rattle.ira_pred.specs.QuestionTextFault.{QuestionTextFault}
use Rattle.ira_pred.proofs.QuestionAnswers as ask
use Rattle.ira_pred.proofs.QuestionTexts.{one_question}
use Rattle.ira_audit.specs.declared.reason.Reason.{Reason}
use Rattle.ira_audit.specs.declared.reason.Reason.TheVariants as reason
use Rattle.ira_audit.specs.declared.answer.Answer.{Answer}
use Rattle.ira_audit.specs.declared.answer.Answer.TheVariants.{Yes, No}
use Rattle.ira_audit.specs.GoodLogs.{AreGoodLogs}
use Rattle.ira_audit.specs.RingAnswer.{IsRingAnswer}
use Rattle.ira_audit.specs.RingAnswer as logs_answer
use Rattle.ira_audit.specs.QuestionFitsLogs.{QuestionFitsLogs, WhyNoQuestion, bad_logs, no_question, other_ring}
use Rattle.ira_audit.proofs.LogTexts.{one_list}
use Rattle.ira_audit.proofs.OneAnswer.{one_logs_answer}
use Rattle.ira_audit.proofs.Stages.{Stage, one_of_stage}

-- ---- the stages, the last one first; yes stands for a question that is posed

-- whether the question is asked of the ring
abbrev RingStage : List Log → QuestionCases → Answer → Type 0
RingStage logs asked =
    Stage (λ (x : Unit {0}). asked.nodes ≢ length logs) (λ x. No reason.QuestionSize)
    (λ (y : Unit {0}). asked.nodes ≡ length logs) (λ y a. a ≡ Yes)

-- whether the text is a question's
abbrev QuestionStage : List ℕ → List Log → Answer → Type 0
QuestionStage question logs =
    Stage (QuestionTextFault question) (λ f. No (reason.Question f)) (IsQuestionText question) (RingStage logs)

-- whether the logs are good
abbrev LogsStage : List (List ℕ) → List ℕ → Answer → Type 0
LogsStage texts question =
    Stage (λ r. IsRingAnswer texts (No r)) No (AreGoodLogs texts) (QuestionStage question)

refused : (texts : List (List ℕ)) (question : List ℕ) (r : Reason) → WhyNoQuestion texts question r
    → LogsStage texts question (No r)
refused texts question r (bad_logs h) = inl (r, h, refl)
refused texts question r (no_question logs f good h e) = inr (logs, good, inl (f, h, ap No e))
refused texts question r (other_ring logs asked good is other e) =
    inr (logs, good, inr (asked, is, inl (tt, other, ap No e)))

posed : (texts : List (List ℕ)) (question : List ℕ) (logs : List Log) (asked : QuestionCases)
    → QuestionFitsLogs texts question logs asked
    → LogsStage texts question Yes
posed texts question logs asked p = inr (logs, p.logs_are, inr (asked, p.question_is, inr (tt, p.ring, refl)))

-- ---- each stage has one answer

one_ring : (logs : List Log) (asked : QuestionCases) (a b : Answer) → RingStage logs asked a → RingStage logs asked b
    → a ≡ b
one_ring logs asked = one_of_stage _ _ _ _ (λ x z h k. refl) (λ x y other same. other same) (λ y z h k.
    refl) (λ y a b h e d. e ∙ sym d)

one_asked : (question : List ℕ) (logs : List Log) (a b : Answer) → QuestionStage question logs a
    → QuestionStage question logs b → a ≡ b
one_asked question logs =
    one_of_stage _ _ _ _ (ask.one_fault question) (λ f q h is.
    ask.question_or_fault question q f is h) (one_question question)
    (λ q a b is. one_ring logs q a b)

one_reason_of_logs : (texts : List (List ℕ)) (r s : Reason) → IsRingAnswer texts (No r) → IsRingAnswer texts (No s)
    → r ≡ s
one_reason_of_logs texts r s h k = let same = one_logs_answer texts (No r) (No s) h k in cc

bad_or_good : (texts : List (List ℕ)) (r : Reason) (logs : List Log) → IsRingAnswer texts (No r)
    → AreGoodLogs texts logs → ⊥
bad_or_good texts r logs h good = let same = one_logs_answer texts (No r) Yes h (logs_answer.yes logs good refl) in cc

one_staged : (texts : List (List ℕ)) (question : List ℕ) (a b : Answer) → LogsStage texts question a
    → LogsStage texts question b → a ≡ b
one_staged texts question =
    one_of_stage _ _ _ _ (one_reason_of_logs texts) (bad_or_good texts) (λ logs others g o.
    one_list texts logs others g.texts_are o.texts_are)
    (λ logs a b good. one_asked question logs a b)

-- ---- what that says

pub one_reason : (texts : List (List ℕ)) (question : List ℕ) (r s : Reason) → WhyNoQuestion texts question r
    → WhyNoQuestion texts question s → r ≡ s
one_reason texts question r s h k = let same =
    one_staged texts question (No r) (No s) (refused texts question r h) (refused texts question s k) in cc

pub posed_or_not : (texts : List (List ℕ)) (question : List ℕ) (r : Reason) (logs : List Log) (asked : QuestionCases)
    → WhyNoQuestion texts question r → QuestionFitsLogs texts question logs asked → ⊥
posed_or_not texts question r logs asked h p = let same =
    one_staged texts question (No r) Yes (refused texts question r h) (posed texts question logs asked p) in cc

-- it is posed of one list of logs, and asks one thing
pub one_posed : (texts : List (List ℕ)) (question : List ℕ) (logs others : List Log) (asked other : QuestionCases)
    → QuestionFitsLogs texts question logs asked → QuestionFitsLogs texts question others other → (logs ≡ others)
    × (asked ≡ other)
one_posed texts question logs others asked other p q = (
  one_list texts logs others p.logs_are.texts_are q.logs_are.texts_are,
  one_question question asked other p.question_is q.question_is,
)
