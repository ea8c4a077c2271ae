-- What is printed of a folder.
use Rattle.std.specs.Prelude.{◌++◌, ℕ, Bool, List, None, Option, Result, Ok, Err, Some, codes, false, true, ⊤}
use Rattle.std.specs.Prelude.{◌≡◌}
use Rattle.ira_audit.specs.Report.{IsReportable}
use Rattle.ira_view_page.specs.Printable.{shown}
use Rattle.ira_view_json.specs.FolderValue.{folder_answer_value, unread_value}
use Rattle.ira_view_json.specs.Line.{IsLineOf}
use Rattle.ira_view_json.specs.declared.run_features.RunFeatures.{RunFeatures}
use Rattle.ira_view.specs.Status.{status_number}
use Rattle.ira_view.specs.declared.form.Form.{Form}
use Rattle.ira_view.specs.declared.form.Form.TheVariants.{Json, Words}
use Rattle.ira_view.specs.declared.status.Status.{Status}
use Rattle.ira_view.specs.declared.status.Status.TheVariants.{No}
use Rattle.ira_main.specs.JudgedFolder.{judged_line, judged_status}
use Rattle.ira_main.specs.FileFault.{line_naming}
use Rattle.ira_main.specs.declared.judged_folder.JudgedFolder.{JudgedFolder}

-- what comes of a folder: what its logs are judged to be, or the name of the file that can't be read
abbrev pub FolderAnswer : Type 0
FolderAnswer = Result JudgedFolder (List ℕ)

-- the answer, if there is one, doesn't say that memory ran out
abbrev pub IsTellable : FolderAnswer → Type 0
IsTellable (Ok judged) = IsReportable judged.answer
IsTellable (Err name) = ⊤

-- what is said of a folder after its name: what its logs are judged to be, or the file that wasn't read
abbrev pub after_folder : FolderAnswer → List ℕ
after_folder (Ok judged) = judged_line judged
after_folder (Err name) = line_naming (codes "cannot read ") name

-- the line of a folder, whose name is as it is printed
abbrev pub folder_line : List ℕ → FolderAnswer → List ℕ
folder_line folder answer = shown folder ++ (codes ": " ++ after_folder answer)

-- what is printed of a folder; as JSON the answer of the logs, and the status that goes with what they are judged to be
abbrev pub IsFolderText : Form → List ℕ → FolderAnswer → List ℕ → Type 0
IsFolderText Json folder (Ok judged) line =
    IsLineOf (folder_answer_value folder (status_number (judged_status judged)) judged.answer) line
IsFolderText Json folder (Err name) line = IsLineOf (unread_value (Some folder) name 2) line
IsFolderText Words folder answer line = line ≡ folder_line folder answer

-- whether a status is no
abbrev pub is_no_status : Status → Bool
is_no_status No = true
is_no_status other = false

-- whether the answer is no, or its election isn't as expected
abbrev pub is_no : FolderAnswer → Bool
is_no (Ok judged) = is_no_status (judged_status judged)
is_no (Err name) = false

-- what the run had, where that is asked
abbrev pub features_of : FolderAnswer → Option RunFeatures
features_of (Ok judged) = judged.features
features_of (Err name) = None
