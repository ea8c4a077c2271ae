-- What is said of texts that should be those of a ring's logs, in the order of its places: the first
-- reason against them, or yes.
use Rattle.std.specs.Prelude.{◌≡◌, ℕ, ◌<◌, List, Some, slice_get}
use Rattle.ira_event.specs.declared.head_fault.HeadFault.{HeadFault}
use Rattle.ira_event.specs.declared.log_fault.LogFault.{LogFault}
use Rattle.ira_event.specs.Log.{Log}
use Rattle.ira_event.specs.Logs.{AreLogs, HeadFaultOf}
use Rattle.ira_replay.specs.declared.replay_fault.ReplayFault.{ReplayFault}
use Rattle.ira_replay.specs.LocalRun.{IsLocalRun, IsFirstFault}
use Rattle.ira_order.specs.declared.match_fault.MatchFault.{MatchFault}
use Rattle.ira_order.specs.MatchFault.{IsMatchFault}
use Rattle.ira_order.specs.Circle.{HasCircle, HasOrder}
use Rattle.ira_audit.specs.declared.reason.Reason.TheVariants as reason
use Rattle.ira_audit.specs.declared.answer.Answer.{Answer}
use Rattle.ira_audit.specs.declared.answer.Answer.TheVariants.{Yes, No}
use Rattle.ira_audit.specs.LogTexts.{AreLogTexts, IsFirstTextFault}
use Rattle.ira_audit.specs.GoodLogs.{AreGoodLogs}

-- the log of this place is the first that is no local run, and this is its first event without a step
pub record IsFirstReplayFault (logs : List Log) (place : ℕ) (f : ReplayFault) : Type 0 where
  pub before : (i : ℕ) (earlier : Log) → i < place → slice_get logs i ≡ Some earlier → IsLocalRun earlier
  pub log : Log
  pub at : slice_get logs place ≡ Some log
  pub fault : IsFirstFault log f

-- the answer of the texts
pub data IsRingAnswer (texts : List (List ℕ)) (answer : Answer) : Type 0 where
  -- a text is no log's: the first such text, and its fault
  no_log :
      (number : ℕ) (f : LogFault) → IsFirstTextFault texts number f
      → answer ≡ No (reason.Log number f) → IsRingAnswer texts answer
  -- they are texts of logs, but not of one ring's
  no_ring :
      (logs : List Log) (f : HeadFault) → AreLogTexts texts logs → HeadFaultOf logs f
      → answer ≡ No (reason.Heads f) → IsRingAnswer texts answer
  -- they are texts of a ring's logs, which don't match
  unmatched :
      (logs : List Log) (f : MatchFault) → AreLogTexts texts logs → AreLogs logs → IsMatchFault logs f
      → answer ≡ No (reason.Match f) → IsRingAnswer texts answer
  -- the logs match and have no order
  circled :
      (logs : List Log) → AreLogTexts texts logs → AreLogs logs → HasCircle logs
      → answer ≡ No reason.Circle → IsRingAnswer texts answer
  -- the logs match and have an order, but an event has no step
  stopped :
      (logs : List Log) (place : ℕ) (f : ReplayFault) → AreLogTexts texts logs → AreLogs logs → HasOrder logs
      → IsFirstReplayFault logs place f → answer ≡ No (reason.Replay place f.position f.fault)
      → IsRingAnswer texts answer
  -- the logs match and have an order, and all events have steps
  yes : (logs : List Log) → AreGoodLogs texts logs → answer ≡ Yes → IsRingAnswer texts answer

-- no texts have two answers
abbrev pub NoTextsHaveTwoAnswers : Type 0
NoTextsHaveTwoAnswers = (texts : List (List ℕ)) (a b : Answer) → IsRingAnswer texts a → IsRingAnswer texts b → a ≡ b

-- any texts have one
abbrev pub AnyTextsHaveAnAnswer : Type 0
AnyTextsHaveAnAnswer = (texts : List (List ℕ)) → (a : Answer) × IsRingAnswer texts a
