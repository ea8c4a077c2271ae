-- What words ask for that judge the logs of a ring.
use Rattle.std.specs.Prelude.{◌≡◌, ◌⊎◌, ℕ, Bool, List, None, false, true}
use Rattle.ira_commands.specs.Answers.{Answers}
use Rattle.ira_commands.specs.Reply.{Reply}
use Rattle.ira_commands.specs.declared.expected.Expected.{Expected}
use Rattle.ira_commands.specs.declared.logs_command.LogsCommand.{LogsCommand}
use Rattle.ira_commands.specs.declared.logs_command.LogsCommand.TheVariants.{Answer, Expect, Explain, ExplainExpected}
use Rattle.ira_commands.specs.declared.ring_leaders.RingLeaders.{RingLeaders}
use Rattle.ira_commands.specs.declared.ring_leaders.RingLeaders.TheVariants.{NotAsked}
use Rattle.ira_main_cli.specs.declared.expectation.Expectation.{Expectation}
use Rattle.ira_main_cli.specs.declared.folder_detail.FolderDetail.{FolderDetail}
use Rattle.ira_main_cli.specs.declared.folder_detail.FolderDetail.TheVariants.{Line, Reasons}
use Rattle.ira_main_cli.specs.declared.log_source.LogSource.{LogSource}
use Rattle.ira_view.specs.declared.form.Form.{Form}
use Rattle.ira_main_files.specs.Shelf.{Reading}
use Rattle.ira_main.specs.Given.{IsUnread, OfFiles}
use Rattle.ira_main.specs.LeadersFile.{HasLeadersIn, IsNoLeaders}
use Rattle.ira_main.specs.Show.{AreLeadersOf}
use Rattle.ira_main.specs.declared.file_fault.FileFault.{FileFault}

-- what is expected of an election by the words: whether it is to be over, and who is to lead
abbrev pub IsExpectedBy : Expectation → List ℕ → Expected → Type 0
IsExpectedBy expectation read asked =
    (asked.is_over ≡ expectation.is_over) × AreLeadersOf expectation.leaders read asked.leaders

-- whether reasons are asked for as well
abbrev pub has_reasons : FolderDetail → Bool
has_reasons Line = false
has_reasons Reasons = true

-- what is asked of logs, where nothing is expected of their election: their answer, or why it is so as well
abbrev pub asked_alone : FolderDetail → Form → LogsCommand
asked_alone Line form = Answer form
asked_alone Reasons form = Explain form

-- and where something is, whether it is so too
abbrev pub asked_with : FolderDetail → Form → Expected → LogsCommand
asked_with Line form expected = Expect form expected
asked_with Reasons form expected = ExplainExpected form expected

abbrev pub asked_of : FolderDetail → Form → Bool → RingLeaders → LogsCommand
asked_of detail form false NotAsked = asked_alone detail form
asked_of detail form is_over leaders = asked_with detail form (record { is_over = is_over; leaders = leaders })

-- the logs, and the file of leaders if one is named, were read, and their texts are judged
abbrev pub JudgesFiles : Type 0 → {S : Type 0} → Reading S → FolderDetail → Form → Expectation → LogSource → S → Reply
    → Type 0
JudgesFiles A reads detail form expectation logs shelf reply =
    (read : List ℕ) × HasLeadersIn reads shelf logs expectation.leaders read
    × (expected : Expected) × IsExpectedBy expectation read expected
    × OfFiles reads None None None logs shelf (Answers A (asked_of detail form expected.is_over expected.leaders)) reply

-- why they aren't
abbrev pub IsUnjudged : {A S : Type 0} → Reading S → Expectation → LogSource → S → FileFault A → Type 0
IsUnjudged reads expectation logs shelf fault =
    IsNoLeaders reads shelf logs expectation.leaders fault ⊎ IsUnread reads None None None logs shelf fault
