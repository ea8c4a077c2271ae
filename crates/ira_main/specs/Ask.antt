-- The question that a sentence stands for, of a ring whose size may be that of logs.
use Rattle.std.specs.Prelude.{◌≡◌, ◌∷◌, ℕ, []}
use Rattle.ira_commands.specs.Ask.{AsksSentence}
use Rattle.ira_commands.specs.Reply.{Reply}
use Rattle.ira_main_cli.specs.declared.ask_request.AskRequest.{AskRequest}
use Rattle.ira_main_cli.specs.declared.asked_size.AskedSize.{AskedSize}
use Rattle.ira_main_cli.specs.declared.asked_size.AskedSize.TheVariants.{Folder, Nodes}
use Rattle.ira_main_files.specs.FileName.{log_name}
use Rattle.ira_main_files.specs.Shelf.{Reading}
use Rattle.ira_main.specs.FilesRead.{Stops}
use Rattle.ira_main.specs.SourceNames.{SaysLogsIn}
use Rattle.ira_main.specs.declared.file_fault.FileFault.{FileFault}

-- the ring has so many nodes: as many as words say, or as the first log in the folder says
abbrev pub HasSize : {S : Type 0} → Reading S → S → AskedSize → ℕ → Type 0
HasSize reads shelf (Nodes given) nodes = nodes ≡ given
HasSize reads shelf (Folder folder) nodes = SaysLogsIn reads shelf folder nodes

-- the question is that of the sentence, of such a ring
abbrev pub AsksOf : {S : Type 0} → Reading S → AskRequest → S → Reply → Type 0
AsksOf reads ask shelf reply =
    (nodes : ℕ) × HasSize reads shelf ask.size nodes × AsksSentence nodes ask.sentence.now reply

-- why there is none: that log can't be read
abbrev pub IsUnasked : {A S : Type 0} → Reading S → AskedSize → S → FileFault A → Type 0
IsUnasked reads (Nodes given) shelf fault = ⊥
IsUnasked reads (Folder folder) shelf fault = Stops reads shelf (log_name folder.now 0 ∷ []) fault
