-- What is said of the text of one log alone: the first and the last reason of `LogsAnswer`, or yes.
use Rattle.std.specs.Prelude.{◌≡◌, ℕ, List}
use Rattle.ira_event.specs.declared.log_fault.LogFault.{LogFault}
use Rattle.ira_event.specs.Log.{Log}
use Rattle.ira_event.specs.LogText.{IsLogText}
use Rattle.ira_event.specs.LogTextFault.{LogTextFault}
use Rattle.ira_replay.specs.declared.replay_fault.ReplayFault.{ReplayFault}
use Rattle.ira_replay.specs.LocalRun.{IsLocalRun, IsFirstFault}
use Rattle.ira_audit.specs.declared.reason.Reason.TheVariants as reason
use Rattle.ira_audit.specs.declared.answer.Answer.{Answer}
use Rattle.ira_audit.specs.declared.answer.Answer.TheVariants.{Yes, No}

-- the answer of the text, which counts as number 0
pub data IsLogTextAnswer (text : List ℕ) (answer : Answer) : Type 0 where
  -- it is no log's
  no_log :
      (f : LogFault) → LogTextFault text f
      → answer ≡ No (reason.Log 0 f) → IsLogTextAnswer text answer
  -- it is a log's, and this is its first event without a step; the log's own place is named
  stopped :
      (log : Log) (f : ReplayFault) → IsLogText text log → IsFirstFault log f
      → answer ≡ No (reason.Replay log.place f.position f.fault) → IsLogTextAnswer text answer
  -- it is a log's, and all events have steps
  yes :
      (log : Log) → IsLogText text log → IsLocalRun log
      → answer ≡ Yes → IsLogTextAnswer text answer

-- no text has two answers
abbrev pub NoTextHasTwoAnswers : Type 0
NoTextHasTwoAnswers = (text : List ℕ) (a b : Answer) → IsLogTextAnswer text a → IsLogTextAnswer text b → a ≡ b

-- each text has one
abbrev pub EachTextHasAnAnswer : Type 0
EachTextHasAnAnswer = (text : List ℕ) → (a : Answer) × IsLogTextAnswer text a
