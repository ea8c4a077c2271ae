-- What comes of judging logs where something is expected of their election when they end.
use Rattle.std.specs.Prelude.{◌≡◌, ◌≢◌, ◌⊎◌, ℕ, Bool, List, [], ◌++◌, None, Option, false, true}
use Rattle.ira_event.specs.Log.{Log}
use Rattle.ira_audit.specs.GoodLogs.{AreGoodLogs}
use Rattle.ira_audit.specs.Refusal.{IsLogsReason}
use Rattle.ira_audit.specs.Report.{report_line}
use Rattle.ira_audit.specs.TextRuns.{AreTextsOfRuns}
use Rattle.ira_audit.specs.declared.answer.Answer.TheVariants.{No, Yes}
use Rattle.ira_audit.specs.declared.reason.Reason.{Reason}
use Rattle.ira_view_json.specs.PageLine.{IsYesLine}
use Rattle.ira_view_moment.specs.Told.{at_end}
use Rattle.ira_view.specs.Differences.{TellsUnfinished}
use Rattle.ira_view.specs.Status.{IsLeadsStatus, status_number}
use Rattle.ira_view.specs.declared.form.Form.{Form}
use Rattle.ira_view.specs.declared.form.Form.TheVariants.{Json, Words}
use Rattle.ira_view.specs.declared.status.Status.{Status}
use Rattle.ira_commands.specs.Reply.{Prints, Reply, ReportsAs, refused}
use Rattle.ira_commands.specs.RingLeaders.{AreDifferencesOf, AreNoPlaces, named_places}
use Rattle.ira_commands.specs.declared.command_fault.CommandFault.TheVariants.{NoPlace}
use Rattle.ira_commands.specs.declared.expected.Expected.{Expected}
use Rattle.ira_commands.specs.declared.expected.Unmet.{Unmet}
use Rattle.ira_commands.specs.declared.expected.Unmet.TheVariants.{NoLeader, NotOver, OtherLeaders}
use Rattle.ira_commands.specs.declared.ring_leaders.RingLeaders.{RingLeaders}
use Rattle.ira_commands.specs.declared.ring_leaders.RingLeaders.TheVariants.{Any, NotAsked, Places}

-- the lines on an election that is to be over: none where it is over when the logs end
abbrev pub AreLinesOver : List Log → Bool → List ℕ → Type 0
AreLinesOver logs true lines = TellsUnfinished logs lines
AreLinesOver logs false lines = lines ≡ []

-- these lines say that the election isn't over, where it is to be, and these how those who lead differ from those who are
-- to
abbrev pub AreLinesOn : List Log → Expected → List ℕ → List ℕ → Type 0
AreLinesOn logs expected over differences =
    AreLinesOver logs expected.is_over over × AreDifferencesOf logs expected.leaders differences

-- all is as expected when the logs end: there are no lines on what isn't
abbrev pub IsMet : List Log → Expected → Type 0
IsMet logs expected = AreLinesOn logs expected [] []

-- others lead than those who are to, or one of these is none of the ring
abbrev pub LeadOthers : List Log → RingLeaders → Type 0
LeadOthers logs leaders =
    ((lines : List ℕ) × AreDifferencesOf logs leaders lines × (lines ≢ [])) ⊎ AreNoPlaces logs leaders

-- what isn't as expected then
abbrev pub others_than : RingLeaders → Unmet
others_than Any = NoLeader
others_than NotAsked = OtherLeaders
others_than (Places places) = OtherLeaders

-- this isn't: the election is to be over and isn't; or else others lead than those who are to
abbrev pub IsUnmet : List Log → Expected → Unmet → Type 0
IsUnmet logs expected unmet =
    ((lines : List ℕ) × AreLinesOver logs expected.is_over lines × (lines ≢ []) × (unmet ≡ NotOver))
    ⊎ (AreLinesOver logs expected.is_over [] × LeadOthers logs expected.leaders × (unmet ≡ others_than expected.leaders))

-- the text of a yes: as JSON with this status, with the nodes that are named and with what the events of the logs come
-- to; or in words: its line, and these lines
abbrev pub IsExpectedText : Form → Option (List ℕ) → List Log → List ℕ → Status → List ℕ → Type 0
IsExpectedText Json named logs lines status text = IsYesLine logs named (status_number status) at_end None text
IsExpectedText Words named logs lines status text = text ≡ report_line Yes ++ lines

-- a yes is told of good logs, and the status says whether all is as expected; or a node that is to lead is none of the
-- ring, which is refused
pub data TellsExpected (form : Form) (expected : Expected) (logs : List Log) (reply : Reply) : Type 0 where
  told : (over differences : List ℕ) (status : Status) → AreLinesOn logs expected over differences
      → IsLeadsStatus (over ++ differences) status
      → Prints (IsExpectedText form (named_places expected.leaders) logs (over ++ differences) status) status reply
      → TellsExpected form expected logs reply
  no_place : AreNoPlaces logs expected.leaders → reply ≡ refused NoPlace → TellsExpected form expected logs reply

-- that is told of the texts of good logs, which are those of runs; or the reason against others
pub data JudgesExpected (form : Form) (expected : Expected) (texts : List (List ℕ)) (reply : Reply) : Type 0 where
  good : (logs : List Log) → AreGoodLogs texts logs → AreTextsOfRuns texts → TellsExpected form expected logs reply
      → JudgesExpected form expected texts reply
  no : (reason : Reason) → IsLogsReason texts reason → ReportsAs form (No reason) reply
      → JudgesExpected form expected texts reply
