-- Why a command is refused for a file that it would read or make.
use Rattle.std.specs.Prelude.{ℕ, List, ◌++◌, codes, decimal}
use Rattle.ira_view_page.specs.Printable.{shown}
use Rattle.ira_main.specs.declared.file_fault.FileFault.{FileFault}
use Rattle.ira_main.specs.declared.file_fault.FileFault.TheVariants.{NoPlaceInLine, OtherEnding, Unread, WouldOverwrite}

-- the name of the file
abbrev pub name_of : {A : Type 0} → FileFault A → List ℕ
name_of (Unread name) = name
name_of (NoPlaceInLine line name) = name
name_of (OtherEnding name) = name
name_of (WouldOverwrite name) = name

-- a line that names a file: of its name what isn't printable ASCII is shown by what is
abbrev pub line_naming : List ℕ → List ℕ → List ℕ
line_naming before name = before ++ (shown name ++ codes "\n")

-- the line of a file that can't be read
abbrev pub unread_text : List ℕ → List ℕ
unread_text name = line_naming (codes "ira: cannot read ") name

-- the beginning of the line of a file of leaders of which a line isn't that of a place
abbrev pub no_place_text : ℕ → List ℕ
no_place_text line = codes "ira: no place in line " ++ decimal line ++ codes " of "

-- what is written to standard error
abbrev pub file_fault_text : {A : Type 0} → FileFault A → List ℕ
file_fault_text (Unread name) = unread_text name
file_fault_text (NoPlaceInLine line name) = line_naming (no_place_text line) name
file_fault_text (OtherEnding name) = line_naming (codes "ira: --out ends in neither .svg nor .html: ") name
file_fault_text (WouldOverwrite name) = line_naming (codes "ira: would overwrite ") name
