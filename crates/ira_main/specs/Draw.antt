-- What comes of the files of a command that draws.
use Rattle.std.specs.Prelude.{◌≡◌, ◌≢◌, ◌⊎◌, ℕ, List, None, Some, codes, map}
use Rattle.std.specs.Path.{path_extension}
use Rattle.std.specs.Char.{to_ascii_lowercase}
use Rattle.ira_commands.specs.Answers.{Answers}
use Rattle.ira_commands.specs.Reply.{Reply}
use Rattle.ira_commands.specs.declared.logs_command.LogsCommand.{LogsCommand}
use Rattle.ira_commands.specs.declared.logs_command.LogsCommand.TheVariants as command
use Rattle.ira_commands.specs.declared.ring_moment.RingMoment.{RingMoment}
use Rattle.ira_commands.specs.declared.ring_form.RingForm.{RingForm}
use Rattle.ira_commands.specs.declared.ring_form.RingForm.TheVariants.{Html, Lines, Picture}
use Rattle.ira_main_cli.specs.declared.draw_request.DrawRequest.{DrawRequest}
use Rattle.ira_main_files.specs.Shelf.{Reading}
use Rattle.ira_main.specs.Given.{IsUnread, OfFiles}
use Rattle.ira_main.specs.Moment.{IsMomentOf, question_of}
use Rattle.ira_main.specs.declared.file_fault.FileFault.{FileFault}
use Rattle.ira_main.specs.declared.file_fault.FileFault.TheVariants.{OtherEnding}
use Rattle.ira_view_picture.specs.declared.column_range.ColumnRange.{ColumnRange}

-- after the last dot of the name stands this, in letters of any case
abbrev pub HasEnding : List ℕ → List ℕ → Type 0
HasEnding name ending = (found : List ℕ) × (path_extension name ≡ Some found)
    × (map to_ascii_lowercase found ≡ map to_ascii_lowercase ending)

-- the columns that are asked for
abbrev pub columns_of : DrawRequest → ColumnRange
columns_of draw = record { from = draw.from; to = draw.to }

-- the form of what is drawn into a file of this name: a page, or a picture, also where the name has no ending
abbrev pub IsDrawnForm : List ℕ → ColumnRange → RingForm → Type 0
IsDrawnForm name columns (Html asked) = HasEnding name (codes "html") × (asked ≡ columns)
IsDrawnForm name columns (Picture asked) =
    (HasEnding name (codes "svg") ⊎ (path_extension name ≡ None)) × (asked ≡ columns)
IsDrawnForm name columns (Lines form) = ⊥

-- there is none: it has another ending
abbrev pub HasOtherEnding : List ℕ → Type 0
HasOtherEnding name = (path_extension name ≢ None) × ¬ (HasEnding name (codes "html")) × ¬ (HasEnding name (codes "svg"))

-- why nothing comes of the files: that, and nothing was read; or what was to be read wasn't
abbrev pub IsUndrawn : {A S : Type 0} → Reading S → DrawRequest → S → FileFault A → Type 0
IsUndrawn reads draw shelf fault = (HasOtherEnding draw.picture.now × (fault ≡ OtherEnding draw.picture.now))
    ⊎ IsUnread reads (Some draw.picture) (question_of draw.moment) None draw.logs shelf fault

-- words ask to draw a ring
abbrev pub AsksToDraw : DrawRequest → LogsCommand → Type 0
AsksToDraw draw asked = (form : RingForm) × (moment : RingMoment) × IsDrawnForm draw.picture.now (columns_of draw) form
    × IsMomentOf draw.moment moment × (asked ≡ command.Show form moment)

-- it is drawn, of the files that they name
abbrev pub DrawsFiles : Type 0 → {S : Type 0} → Reading S → DrawRequest → S → Reply → Type 0
DrawsFiles A reads draw shelf reply = (asked : LogsCommand) × AsksToDraw draw asked
    × OfFiles reads (Some draw.picture) (question_of draw.moment) None draw.logs shelf (Answers A asked) reply
