-- Why the program ends with neither yes nor no.
use Rattle.std.specs.Prelude.{ℕ, List, ◌++◌, codes, decimal}
use Rattle.std.specs.Borrow.{Bor}
use Rattle.std.specs.List.{flat_map}
use Rattle.std.specs.String.{string_bytes}
use Rattle.ira_view_page.specs.Printable.{shown}
use Rattle.ira_view.specs.declared.status.Status.{Status}
use Rattle.ira_view.specs.declared.status.Status.TheVariants as status
use Rattle.ira_view_page.specs.declared.show_fault.ShowFault.{ShowFault}
use Rattle.ira_view_page.specs.declared.show_fault.ShowFault.TheVariants as show
use Rattle.ira_commands.specs.CommandFault.{command_fault_text}
use Rattle.ira_commands.specs.declared.command_fault.CommandFault.TheVariants.{WrongColumns}
use Rattle.ira_main_cli.specs.declared.words_fault.WordsFault.{WordsFault}
use Rattle.ira_main_cli.specs.declared.words_fault.WordsFault.TheVariants as words
use Rattle.ira_main_files.specs.FileName.{slash_after}
use Rattle.ira_main_files.specs.declared.shelf_fault.ShelfFault.{ShelfFault}
use Rattle.ira_main_files.specs.declared.shelf_fault.ShelfFault.TheVariants as shelf
use Rattle.ira_main.specs.FileFault.{file_fault_text, line_naming, unread_text}
use Rattle.ira_main.specs.declared.program_fault.ProgramFault.{ProgramFault}
use Rattle.ira_main.specs.declared.program_fault.ProgramFault.TheVariants.{CannotReadSome, CannotWrite, CannotWriteAnswer}
use Rattle.ira_main.specs.declared.program_fault.ProgramFault.TheVariants.{CannotWriteLog, Command, File, OutOfMemory}
use Rattle.ira_main.specs.declared.program_fault.ProgramFault.TheVariants.{WordIsNoText, Words}

-- the status of a fault
abbrev pub program_fault_status : {A : Type 0} → ProgramFault A → Status
program_fault_status OutOfMemory = status.OutOfMemory
program_fault_status _ = status.Refused

-- the fault where a log wasn't written to the file of its place in this folder
abbrev pub write_log_fault : {A : Type 0} → Bor (List ℕ) → ℕ → ShelfFault → ProgramFault A
write_log_fault folder place shelf.OutOfMemory = OutOfMemory
write_log_fault folder place other = CannotWriteLog folder place

-- the fault of words that ask for nothing: their refusal, or out of memory
abbrev pub words_fault : {A : Type 0} → WordsFault → ProgramFault A
words_fault (words.Refused text) = Words text
words_fault words.OutOfMemory = OutOfMemory

-- the fault where a certificate or a picture wasn't written to the file of this name
abbrev pub write_fault : {A : Type 0} → Bor (List ℕ) → ShelfFault → ProgramFault A
write_fault name shelf.OutOfMemory = OutOfMemory
write_fault name other = CannotWrite name

-- the fault where what is printed wasn't written whole
abbrev pub show_fault : {A : Type 0} → ShowFault → ProgramFault A
show_fault show.Write = CannotWriteAnswer
show_fault show.WrongColumns = Command WrongColumns
show_fault show.OutOfMemory = OutOfMemory

-- the line of a log that wasn't written to the file of its place in this folder
abbrev pub unwritten_text : List ℕ → ℕ → List ℕ
unwritten_text folder place =
    codes "ira: cannot write " ++ (shown folder ++ (slash_after folder ++ decimal place ++ codes ".log\n"))

-- what is written to standard error
abbrev pub program_fault_text : {A : Type 0} → ProgramFault A → List ℕ
program_fault_text (Words text) = string_bytes text
program_fault_text WordIsNoText = codes "ira: a word is not UTF-8\n"
program_fault_text (File fault) = file_fault_text fault
program_fault_text (CannotReadSome names) = flat_map unread_text names.items
program_fault_text (Command fault) = command_fault_text fault
program_fault_text (CannotWriteLog folder place) = unwritten_text folder.now place
program_fault_text (CannotWrite name) = line_naming (codes "ira: cannot write ") name.now
program_fault_text CannotWriteAnswer = codes "ira: cannot write the answer\n"
program_fault_text OutOfMemory = codes "ira: out of memory\n"
