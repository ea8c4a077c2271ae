-- What the logs in a folder are judged to be, where something may be expected of their election.
use Rattle.std.specs.Prelude.{◌≡◌, ℕ, Bool, List, MatchOption, None, Option, Some, codes}
use Rattle.ira_event.specs.Log.{Log}
use Rattle.ira_audit.specs.GoodLogs.{AreGoodLogs}
use Rattle.ira_audit.specs.Refusal.{IsLogsReason}
use Rattle.ira_audit.specs.Report.{report_line}
use Rattle.ira_audit.specs.TextRuns.{AreTextsOfRuns}
use Rattle.ira_audit.specs.declared.answer.Answer.{Answer}
use Rattle.ira_audit.specs.declared.answer.Answer.TheVariants.{No, Yes}
use Rattle.ira_audit.specs.declared.reason.Reason.{Reason}
use Rattle.ira_commands.specs.Expected.{IsMet, IsUnmet}
use Rattle.ira_commands.specs.declared.expected.Expected.{Expected}
use Rattle.ira_commands.specs.declared.expected.Unmet.{Unmet}
use Rattle.ira_commands.specs.declared.expected.Unmet.TheVariants.{NoLeader, NotOver, OtherLeaders}
use Rattle.ira_view.specs.RunFeatures.{AreFeatures}
use Rattle.ira_view.specs.Status.{answer_status}
use Rattle.ira_view.specs.declared.status.Status.{Status}
use Rattle.ira_view.specs.declared.status.Status.TheVariants as status
use Rattle.ira_view_json.specs.declared.run_features.RunFeatures.{RunFeatures}
use Rattle.ira_main.specs.declared.judged_folder.JudgedFolder.{JudgedFolder}

-- the status that goes with an answer, and with what isn't as expected
abbrev pub status_with : Answer → Option Unmet → Status
status_with answer None = answer_status answer
status_with answer (Some unmet) = status.No

abbrev pub judged_status : JudgedFolder → Status
judged_status judged = status_with judged.answer judged.unmet

-- the line of these: the answer, or what isn't as expected
abbrev pub line_with : Answer → Option Unmet → List ℕ
line_with answer None = report_line answer
line_with answer (Some NotOver) = codes "yes, not over\n"
line_with answer (Some NoLeader) = codes "yes, no leader\n"
line_with answer (Some OtherLeaders) = codes "yes, other leaders\n"

abbrev pub judged_line : JudgedFolder → List ℕ
judged_line judged = line_with judged.answer judged.unmet

-- the texts of good logs, which are those of runs, are judged so: a yes, where not all is as expected of their election
-- what isn't, and where that is asked what their run had; or others, with the reason against them
pub data IsJudgedOf (expected : Expected) (is_summed : Bool) (texts : List (List ℕ)) (judged : JudgedFolder) : Type 0 where
  good : (logs : List Log) (unmet : Option Unmet) (features : Option RunFeatures) → AreGoodLogs texts logs
      → AreTextsOfRuns texts → MatchOption unmet (IsMet logs expected) (IsUnmet logs expected)
      → AreFeatures is_summed logs features → judged ≡ record { answer = Yes; unmet = unmet; features = features }
      → IsJudgedOf expected is_summed texts judged
  no : (reason : Reason) → IsLogsReason texts reason
      → judged ≡ record { answer = No reason; unmet = None; features = None } → IsJudgedOf expected is_summed texts judged
