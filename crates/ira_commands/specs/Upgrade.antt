-- What comes of upgrading logs.
use Rattle.std.specs.Prelude.{◌≡◌, ℕ, List, length, map}
use Rattle.ira_event.specs.Log.{Log}
use Rattle.ira_event.specs.Logs.{AreLogs}
use Rattle.ira_event.specs.Upgrade.{upgraded}
use Rattle.ira_audit.specs.LogTexts.{AreLogTexts}
use Rattle.ira_audit.specs.Refusal.{IsRingReason}
use Rattle.ira_audit.specs.declared.answer.Answer.TheVariants.{No}
use Rattle.ira_audit.specs.declared.reason.Reason.{Reason}
use Rattle.ira_view.specs.UpgradedLine.{upgraded_text}
use Rattle.ira_commands.specs.Reply.{Reply, Reports, printed, with_files}
use Rattle.ira_commands.specs.Reply.MadeFiles.{logs_of}
use Rattle.ira_view.specs.declared.status.Status.TheVariants.{Yes}

-- each log in version 2 is a file, and their number is printed
abbrev pub TellsUpgraded : List Log → Reply → Type 0
TellsUpgraded logs reply =
    reply ≡ with_files (printed Yes (upgraded_text (length logs))) (logs_of (map upgraded logs))

-- the texts are those of the logs of one ring, which are upgraded; or this is why they aren't
pub data UpgradesTexts (texts : List (List ℕ)) (reply : Reply) : Type 0 where
  of_ring : (logs : List Log) → AreLogTexts texts logs → AreLogs logs → TellsUpgraded logs reply
      → UpgradesTexts texts reply
  no_ring : (r : Reason) → IsRingReason texts r → Reports (No r) reply → UpgradesTexts texts reply
