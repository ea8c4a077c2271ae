-- Whether texts are those of good logs of a ring, and a question is asked of that ring; else the first reason
-- against it.
use Rattle.std.specs.Prelude.{◌≡◌, ◌≢◌, ℕ, List, length}
use Rattle.ira_event.specs.Log.{Log}
use Rattle.ira_pred.specs.declared.ask_fault.AskFault.{AskFault}
use Rattle.ira_pred.specs.Question.{QuestionCases}
use Rattle.ira_pred.specs.QuestionText.{IsQuestionText}
use Rattle.ira_pred.specs.QuestionTextFault.{QuestionTextFault}
use Rattle.ira_audit.specs.declared.reason.Reason.{Reason}
use Rattle.ira_audit.specs.declared.reason.Reason.TheVariants as reason
use Rattle.ira_audit.specs.declared.answer.Answer.TheVariants.{No}
use Rattle.ira_audit.specs.GoodLogs.{AreGoodLogs}
use Rattle.ira_audit.specs.RingAnswer.{IsRingAnswer}

-- the texts are those of good logs, and the question is asked of their ring
pub record QuestionFitsLogs (texts : List (List ℕ)) (question : List ℕ) (logs : List Log) (asked : QuestionCases)
    : Type 0 where
  pub logs_are : AreGoodLogs texts logs
  pub question_is : IsQuestionText question asked
  pub ring : asked.nodes ≡ length logs

-- why the question isn't posed
pub data WhyNoQuestion (texts : List (List ℕ)) (question : List ℕ) (r : Reason) : Type 0 where
  -- something is said against the logs
  bad_logs : IsRingAnswer texts (No r) → WhyNoQuestion texts question r
  -- the logs are good, but the question's text is none
  no_question :
      (logs : List Log) (f : AskFault) → AreGoodLogs texts logs → QuestionTextFault question f
      → r ≡ reason.Question f → WhyNoQuestion texts question r
  -- the question is asked of another ring
  other_ring :
      (logs : List Log) (asked : QuestionCases) → AreGoodLogs texts logs → IsQuestionText question asked
      → asked.nodes ≢ length logs
      → r ≡ reason.QuestionSize → WhyNoQuestion texts question r
