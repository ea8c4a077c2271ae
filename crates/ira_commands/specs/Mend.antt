-- What comes of mending logs.
use Rattle.std.specs.Prelude.{◌≡◌, ℕ, Bool, List}
use Rattle.std.specs.List.{AllZip}
use Rattle.ira_event.specs.Log.{Log}
use Rattle.ira_event.specs.Logs.{AreLogs}
use Rattle.ira_order.specs.declared.match_fault.MatchFault.{MatchFault}
use Rattle.ira_mend.specs.Mended.{AreMended, HasDifference}
use Rattle.ira_mend.specs.RecordedLogs.{AreLeftTexts, IsRecordedReason, SaysLost}
use Rattle.ira_audit.specs.declared.answer.Answer.TheVariants.{No}
use Rattle.ira_audit.specs.declared.reason.Reason.{Reason}
use Rattle.ira_audit.specs.declared.reason.Reason.TheVariants.{Match}
use Rattle.ira_view.specs.MendedLines.{mended_lines}
use Rattle.ira_commands.specs.Reply.{Reply, Reports, printed, with_files}
use Rattle.ira_commands.specs.Reply.MadeFiles.{logs_of}
use Rattle.ira_view.specs.declared.status.Status.TheVariants.{Yes}

-- each mended log is a file, and how many events are kept of each is printed
abbrev pub TellsMended : List Log → List Log → List Bool → Reply → Type 0
TellsMended logs mended lost reply =
    reply ≡ with_files (printed Yes (mended_lines logs mended lost)) (logs_of mended)

-- the texts are what is left of the logs of one ring, which were mended; or they have a difference; or this is why they
-- are no such texts
pub data MendsTexts (is_initiator : Bool) (texts : List (List ℕ)) (reply : Reply) : Type 0 where
  mended : (logs mended : List Log) (lost : List Bool) → AreLeftTexts is_initiator texts logs → AreLogs logs
      → AllZip SaysLost texts lost → AreMended logs mended → TellsMended logs mended lost reply
      → MendsTexts is_initiator texts reply
  differ : (logs : List Log) (f : MatchFault) → AreLeftTexts is_initiator texts logs → AreLogs logs
      → HasDifference logs f → Reports (No (Match f)) reply → MendsTexts is_initiator texts reply
  no_ring : (r : Reason) → IsRecordedReason is_initiator texts r → Reports (No r) reply
      → MendsTexts is_initiator texts reply
