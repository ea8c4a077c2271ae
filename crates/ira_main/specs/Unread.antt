-- A file that can't be read, told as JSON too, and why it can't, or can't be written.
use Rattle.std.specs.Prelude.{◌≡◌, ◌⊎◌, ◌==◌, ◌&&◌, ◌||◌, ℕ, Bool, true, false, not, List, [], ◌∷◌, None, Err, codes, if◌then◌else◌}
use Rattle.std.specs.List.{ends_with}
use Rattle.std.specs.Str.{bytes_eq}
use Rattle.ira_ask.specs.declared.sentence_fault.SentenceFault.{SentenceFault}
use Rattle.ira_event.specs.Sink.{SinkState, StopsIn, Takes}
use Rattle.ira_commands.specs.declared.command_fault.CommandFault.TheVariants.{NoSentence}
use Rattle.ira_main_files.specs.Shelf.{Reading}
use Rattle.ira_main_files.specs.declared.file_entry.FileEntry.{FileEntry}
use Rattle.ira_main_files.specs.declared.file_entry.FileEntry.TheVariants.{Folder, Missing}
use Rattle.ira_view_json.specs.FolderValue.{unread_value}
use Rattle.ira_view_json.specs.Line.{IsLineOf}
use Rattle.ira_view_page.specs.Printable.{IsPrintable}
use Rattle.ira_main.specs.Outcome.{Outcome}
use Rattle.ira_main.specs.declared.program_fault.ProgramFault.TheVariants.{CannotWrite, CannotWriteLog, Command, File}
use Rattle.ira_main.specs.declared.file_fault.FileFault.TheVariants.{Unread}
use Rattle.ira_main.specs.declared.tell_why.Why.{Why}
use Rattle.ira_main.specs.declared.tell_why.Why.TheVariants.{Line, Page}

-- `--json` is one of the words, and `--` doesn't stand before it
abbrev pub wants_json : List (List ℕ) → Bool
wants_json [] = false
wants_json (word ∷ words) =
    not (bytes_eq word (codes "--")) && (bytes_eq word (codes "--json") || wants_json words)

-- a file that can't be read was printed as JSON, where that is wanted, whole or to where the output stopped; or nothing,
-- where memory ran out
abbrev pub TellsUnread : {A : Type 0} → Bool → Outcome A → SinkState → SinkState → Type 0
TellsUnread true (Err (File (Unread name))) out out' =
    ((line : List ℕ) × IsLineOf (unread_value None name 2) line
    × (Takes line out out' ⊎ StopsIn line out out'))
    ⊎ (out' ≡ out)
TellsUnread wants outcome out out' = out' ≡ out

-- what is said of a file of this name that can't be read, by what the name leads to: `mend` is named where it is a log's
abbrev pub entry_text : List ℕ → FileEntry → List ℕ
entry_text name Missing = if ends_with (λ a b. a == b) name (codes ".log")
    then codes "  no such file; of a log that is lost `ira mend --lost PLACE` makes an empty one\n"
    else codes "  no such file\n"
entry_text name Folder = codes "  it is a folder; logs in a folder are named by --dir\n"
entry_text name _ = codes "  the system refuses to open or read it; `ls -l` says who may\n"

-- of one that can't be written
abbrev pub unwritten_why : List ℕ
unwritten_why = codes "  it is a folder, its folder isn't there or can't be written in, or the disk is full\n"

-- the text that is told
abbrev pub why_text : {A : Type 0} → Why A → List ℕ
why_text (Line line) = line.now
why_text (Page page) = page

-- the line after that of an outcome: of a file that wasn't read or written this, if one; of others none
abbrev pub IsWhy : {A S : Type 0} → Reading S → S → Outcome A → List ℕ → Type 0
IsWhy reads shelf (Err (File (Unread name))) line =
    ((entry : FileEntry) × reads.entry shelf name entry × (line ≡ entry_text name entry)) ⊎ (line ≡ [])
IsWhy reads shelf (Err (CannotWrite name)) line = line ≡ unwritten_why
IsWhy reads shelf (Err (CannotWriteLog folder place)) line = line ≡ unwritten_why
IsWhy reads shelf outcome line = line ≡ []

-- what is told after the line of an outcome: that line, or of a refused sentence printable text
abbrev pub IsTold : {A S : Type 0} → Reading S → S → Outcome A → List ℕ → Type 0
IsTold reads shelf outcome text =
    IsWhy reads shelf outcome text
    ⊎ ((fault : SentenceFault) × (outcome ≡ Err (Command (NoSentence fault))) × IsPrintable text)
