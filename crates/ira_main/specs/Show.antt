-- What words ask for that show a ring.
use Rattle.std.specs.Prelude.{◌≡◌, ◌⊎◌, ℕ, List, None, Option, Some}
use Rattle.std.specs.Borrow.{Bor}
use Rattle.ira_view.specs.Form.{json_form}
use Rattle.ira_commands.specs.Answers.{Answers}
use Rattle.ira_commands.specs.Reply.{Reply}
use Rattle.ira_commands.specs.declared.logs_command.LogsCommand.{LogsCommand}
use Rattle.ira_commands.specs.declared.logs_command.LogsCommand.TheVariants as command
use Rattle.ira_commands.specs.declared.ring_form.LinesForm.{LinesForm}
use Rattle.ira_commands.specs.declared.ring_form.RingForm.TheVariants.{Lines}
use Rattle.ira_commands.specs.declared.ring_leaders.RingLeaders.{RingLeaders}
use Rattle.ira_commands.specs.declared.ring_leaders.RingLeaders.TheVariants as leaders
use Rattle.ira_commands.specs.declared.ring_moment.RingMoment.{RingMoment}
use Rattle.ira_main_cli.specs.declared.asked_leaders.AskedLeaders.{AskedLeaders}
use Rattle.ira_main_cli.specs.declared.asked_leaders.AskedLeaders.TheVariants.{Any, File, Places}
use Rattle.ira_main_cli.specs.declared.show_request.ShowRequest.{ShowRequest}
use Rattle.ira_main_files.specs.Shelf.{Reading}
use Rattle.ira_main.specs.Given.{IsUnread, OfFiles}
use Rattle.ira_main.specs.LeadersFile.{HasLeadersIn, IsNoLeaders}
use Rattle.ira_main.specs.Moment.{IsMomentOf, question_of}
use Rattle.ira_main.specs.declared.file_fault.FileFault.{FileFault}

-- who is to lead: the nodes at these places
abbrev pub AreAt : List ℕ → RingLeaders → Type 0
AreAt places asked = (lent : Bor (List ℕ)) × (lent.now ≡ places) × (asked ≡ leaders.Places lent)

-- who is to lead by the words: some node, or the nodes at these places, or at those in the file that is named; or nobody
-- is asked for
abbrev pub AreLeadersOf : Option AskedLeaders → List ℕ → RingLeaders → Type 0
AreLeadersOf None read asked = asked ≡ leaders.NotAsked
AreLeadersOf (Some Any) read asked = asked ≡ leaders.Any
AreLeadersOf (Some (Places places)) read asked = AreAt places.items asked
AreLeadersOf (Some (File name)) read asked = AreAt read asked

-- the lines that they ask for
abbrev pub AreLinesOf : ShowRequest → List ℕ → LinesForm → Type 0
AreLinesOf show read lines =
    (lines.form ≡ json_form show.is_json) × (lines.has_events ≡ show.has_events)
    × AreLeadersOf show.leads read lines.leaders

-- they ask to show a ring as these lines, with the places in the file of leaders, if one is named
abbrev pub AsksToShow : ShowRequest → List ℕ → LogsCommand → Type 0
AsksToShow show read asked =
    (lines : LinesForm) × (moment : RingMoment) × AreLinesOf show read lines × IsMomentOf show.moment moment
    × (asked ≡ command.Show (Lines lines) moment)

-- the logs, and the file of leaders if one is named, were read, and their ring is shown
abbrev pub ShowsFiles : Type 0 → {S : Type 0} → Reading S → ShowRequest → S → Reply → Type 0
ShowsFiles A reads show shelf reply =
    (read : List ℕ) × HasLeadersIn reads shelf show.logs show.leads read
    × (asked : LogsCommand) × AsksToShow show read asked
    × OfFiles reads None (question_of show.moment) None show.logs shelf (Answers A asked) reply

-- why it isn't
abbrev pub IsUnshown : {A S : Type 0} → Reading S → ShowRequest → S → FileFault A → Type 0
IsUnshown reads show shelf fault =
    IsNoLeaders reads shelf show.logs show.leads fault
    ⊎ IsUnread reads None (question_of show.moment) None show.logs shelf fault
