-- How requests are spelled.
use Rattle.std.specs.Prelude.{◌≡◌, ℕ, Bool, List, [], ◌++◌, ◌∷◌, Some, false, true}
use Rattle.ira_commands.specs.declared.logs_command.LogsCommand.{LogsCommand}
use Rattle.ira_commands.specs.declared.logs_command.LogsCommand.TheVariants.{Answer, Check, Decide, Explain, ExplainCheck}
use Rattle.ira_commands.specs.declared.logs_command.LogsCommand.TheVariants.{Expect, ExplainExpected, ExplainQuestion, Show}
use Rattle.ira_commands.specs.declared.overview.OverviewQuestion.{OverviewQuestion}
use Rattle.ira_commands.specs.declared.overview.OverviewQuestion.TheVariants.{Certified, Decided, NotAsked}
use Rattle.ira_commands.specs.declared.ring_form.RingForm.{RingForm}
use Rattle.ira_commands.specs.declared.ring_form.RingForm.TheVariants.{Html, Lines, Picture}
use Rattle.ira_view.specs.declared.form.Form.{Form}
use Rattle.ira_view.specs.declared.form.Form.TheVariants.{Json, Words}
use Rattle.ira_view_picture.specs.declared.column_range.ColumnRange.{ColumnRange}
use Rattle.ira_web.specs.Spelling.{case_values, leaders_values, moment_values, run_values}
use Rattle.ira_web.specs.declared.request.Request.{Request}
use Rattle.ira_web.specs.declared.request.Request.TheVariants.{AllOf, Ask, ExplainLog, Mend, OfLogs, OneLog, Pairs, Run, Upgrade}

-- the number that says that lines of JSON are wanted, where they are
abbrev pub json_values : Form → List ℕ
json_values Json = 16 ∷ []
json_values Words = []

-- the number of the command that shows a ring: what it looks like at its moment, or all events
abbrev pub lines_values : Bool → List ℕ
lines_values false = 6 ∷ []
lines_values true = 7 ∷ []

-- the number of what an overview tells of a question
abbrev pub question_value : OverviewQuestion → ℕ
question_value NotAsked = 0
question_value Decided = 1
question_value Certified = 2

-- columns from one to another
abbrev pub AreColumns : ColumnRange → ℕ → ℕ → Type 0
AreColumns columns from to = (columns.from ≡ Some from) × (columns.to ≡ Some to)

-- the number of the command that shows a ring in a form, after who is to lead, and the columns of a picture
abbrev pub HasFormValues : RingForm → List ℕ → Type 0
HasFormValues (Lines lines) values =
    values ≡ json_values lines.form ++ leaders_values lines.leaders ++ lines_values lines.has_events
HasFormValues (Picture columns) values =
    (from : ℕ) × (to : ℕ) × AreColumns columns from to × (values ≡ 8 ∷ from ∷ to ∷ [])
HasFormValues (Html columns) values =
    (from : ℕ) × (to : ℕ) × AreColumns columns from to × (values ≡ 15 ∷ from ∷ to ∷ [])

-- the number of a command on the logs of a ring, and its values; what is decided is certified
abbrev pub HasCommandValues : LogsCommand → List ℕ → Type 0
HasCommandValues (Answer form) values = values ≡ json_values form ++ 1 ∷ []
HasCommandValues (Expect form expected) values = ⊥
HasCommandValues (Explain form) values = values ≡ json_values form ++ 3 ∷ []
HasCommandValues (ExplainExpected form expected) values = ⊥
HasCommandValues (ExplainQuestion form case) values = values ≡ json_values form ++ 4 ∷ case_values case
HasCommandValues (ExplainCheck form) values = values ≡ json_values form ++ 5 ∷ []
HasCommandValues (Show form moment) values =
    (front : List ℕ) × HasFormValues form front × (values ≡ front ++ moment_values moment)
HasCommandValues (Decide form true certify) values = (form ≡ Words) × (certify ≡ true) × (values ≡ 9 ∷ 1 ∷ [])
HasCommandValues (Decide form false certify) values = (certify ≡ true) × (values ≡ json_values form ++ 9 ∷ [])
HasCommandValues (Check form) values = values ≡ json_values form ++ 10 ∷ []

-- the number of the request, and its values
abbrev pub HasValues : Request → List ℕ → Type 0
HasValues OneLog values = values ≡ 0 ∷ []
HasValues (ExplainLog form) values = values ≡ json_values form ++ 2 ∷ []
HasValues (OfLogs command) values = HasCommandValues command values
HasValues (AllOf overview) values = (from : ℕ) × (to : ℕ) × AreColumns overview.columns from to
    × (values ≡ 18 ∷ question_value overview.question ∷ from ∷ to ∷ moment_values overview.moment)
HasValues (Pairs nodes) values = values ≡ 11 ∷ nodes ∷ []
HasValues (Ask nodes) values = values ≡ 19 ∷ nodes ∷ []
HasValues Upgrade values = values ≡ 12 ∷ []
HasValues (Mend false) values = values ≡ 13 ∷ 0 ∷ []
HasValues (Mend true) values = values ≡ 13 ∷ 1 ∷ []
HasValues (Run asked) values = values ≡ 14 ∷ run_values asked
