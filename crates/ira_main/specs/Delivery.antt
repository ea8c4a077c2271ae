-- How replies reach the output and the shelf.
use Rattle.std.specs.Prelude.{◌≡◌, ◌≢◌, ◌⊎◌, List, None, Option, Result, Ok, Err, Some, codes, ℕ}
use Rattle.std.specs.Borrow.{Bor}
use Rattle.ira_event.specs.declared.out_of_memory.OutOfMemory as memory
use Rattle.ira_event.specs.Log.{Log}
use Rattle.ira_event.specs.Sink.{SinkState}
use Rattle.ira_commands.specs.Output.{WroteOutput}
use Rattle.ira_commands.specs.Reply.{AreNoLogs, MadeFiles, Reply}
use Rattle.ira_commands.specs.Reply.MadeFiles.{logs_of, one_text}
use Rattle.ira_commands.specs.declared.command_fault.CommandFault.{CommandFault}
use Rattle.ira_main_files.specs.Shelf.{MakesFile, Writing}
use Rattle.ira_main_files.specs.declared.shelf_fault.ShelfFault.{ShelfFault}
use Rattle.ira_main.specs.LogFiles.{StopsInLogs, WritesLogs}
use Rattle.ira_main.specs.Outcome.{GivesNoAnswer, Outcome, PrintsLine}
use Rattle.ira_main.specs.ProgramFault.{show_fault, write_fault}
use Rattle.ira_main.specs.declared.program_fault.ProgramFault.{ProgramFault}
use Rattle.ira_main.specs.declared.program_fault.ProgramFault.TheVariants.{Command, File, OutOfMemory}
use Rattle.ira_main.specs.declared.file_fault.FileFault.{FileFault}
use Rattle.ira_view_page.specs.declared.show_fault.ShowFault.{ShowFault}
use Rattle.ira_view.specs.declared.status.Status.{Status}

-- what the program ends with after a reply: its status, or why it is refused
abbrev pub outcome_of : {A : Type 0} → Status → Option CommandFault → Outcome A
outcome_of status None = Ok status
outcome_of status (Some fault) = Err (Command fault)

-- where its output was written; else why it wasn't
abbrev pub printed_outcome : {A T : Type 0} → Reply → Result T ShowFault → Outcome A
printed_outcome reply (Ok v) = outcome_of reply.status reply.fault
printed_outcome reply (Err why) = Err (show_fault why)

-- what a reply has for the output was written, or a first part of it, and the outcome says so
abbrev pub PrintsReply : {A : Type 0} → Reply → SinkState → SinkState → Outcome A → Type 0
PrintsReply reply out out' outcome =
    (wrote : Result (Unit {0}) ShowFault) × WroteOutput reply.out wrote out out'
    × (outcome ≡ printed_outcome reply wrote)

-- a reply of this kind was printed; or there is none, for a fault of this kind, and nothing was printed
abbrev pub Tells : {A : Type 0} → (Reply → Type 0) → (FileFault A → Type 0) → SinkState → SinkState → Outcome A → Type 0
Tells IsReply IsFault out out' outcome =
    ((reply : Reply) × IsReply reply × PrintsReply reply out out' outcome) ⊎ GivesNoAnswer IsFault out out' outcome

-- the text of a reply is for a file of this name: it isn't refused
pub record IsForFile (name : Option (Bor (List ℕ))) (reply : Reply) (file : Bor (List ℕ)) (text : List ℕ) : Type 0 where
  pub named : name ≡ Some file
  pub fine : reply.fault ≡ None
  pub made : reply.files ≡ one_text text

-- nothing of a reply goes to the file of this name: none is named, or it is refused, or it has no text for one
abbrev pub MakesNoFile : Option (Bor (List ℕ)) → Reply → Type 0
MakesNoFile name reply = (file : Bor (List ℕ)) (text : List ℕ) → ¬ (IsForFile name reply file text)

-- a reply was printed whole, and then its text was written to a new file of this name, or a fault of that is the outcome;
-- or it goes to standard output, for which `-` stands, and was printed in place of all else; or there is none. Or the reply
-- wasn't printed whole, and the shelf is as it was
pub data KeepsReply {A S : Type 0} (writes : Writing S) (name : Option (Bor (List ℕ))) (reply : Reply) (old new : S)
    (out out' : SinkState) (outcome : Outcome A) : Type 0 where
  kept : (file : Bor (List ℕ)) (text : List ℕ) → IsForFile name reply file text → file.now ≢ codes "-"
      → WroteOutput {T = Unit {0}} reply.out (Ok tt) out out' → MakesFile writes file.now text old new (Ok tt)
      → outcome ≡ Ok reply.status → KeepsReply writes name reply old new out out' outcome
  unwritten : (file : Bor (List ℕ)) (text : List ℕ) (why : ShelfFault) → IsForFile name reply file text
      → file.now ≢ codes "-" → WroteOutput {T = Unit {0}} reply.out (Ok tt) out out'
      → MakesFile writes file.now text old new (Err why) → outcome ≡ Err (write_fault file why)
      → KeepsReply writes name reply old new out out' outcome
  shown : (file : Bor (List ℕ)) (text : List ℕ) → IsForFile name reply file text → file.now ≡ codes "-" → new ≡ old
      → PrintsLine text reply.status out out' outcome → KeepsReply writes name reply old new out out' outcome
  printed : MakesNoFile name reply → new ≡ old → PrintsReply reply out out' outcome
      → KeepsReply writes name reply old new out out' outcome
  unprinted : (why : ShowFault) → WroteOutput {T = Unit {0}} reply.out (Err why) out out' → new ≡ old
      → outcome ≡ Err (show_fault why) → KeepsReply writes name reply old new out out' outcome

-- each log of a reply was written to the file of its place in this folder, and then the reply was printed; or a log wasn't
-- written, and nothing was printed; or the reply has none, and was printed
pub data RecordsReply {A S : Type 0} (writes : Writing S) (folder : Bor (List ℕ)) (reply : Reply) (old new : S)
    (out out' : SinkState) (outcome : Outcome A) : Type 0 where
  recorded : (logs : List Log) → reply.files ≡ logs_of logs → WritesLogs writes folder.now logs old new
      → PrintsReply reply out out' outcome → RecordsReply writes folder reply old new out out' outcome
  unwritten : (logs : List Log) (f : ProgramFault A) → reply.files ≡ logs_of logs
      → StopsInLogs writes folder logs old new f → out' ≡ out → outcome ≡ Err f
      → RecordsReply writes folder reply old new out out' outcome
  no_logs : AreNoLogs reply.files → new ≡ old → PrintsReply reply out out' outcome
      → RecordsReply writes folder reply old new out out' outcome

-- a reply of this kind was printed, and its file made; or there is none, and the shelf is as it was
abbrev pub TellsAndKeeps : {A S : Type 0} → Writing S → Option (Bor (List ℕ)) → (Reply → Type 0) → (FileFault A → Type 0)
    → S → S → SinkState → SinkState → Outcome A → Type 0
TellsAndKeeps writes name IsReply IsFault old new out out' outcome =
    ((reply : Reply) × IsReply reply × KeepsReply writes name reply old new out out' outcome)
    ⊎ ((new ≡ old) × GivesNoAnswer IsFault out out' outcome)

-- the logs of a reply of this kind were written, and it was printed; or there is none, and the shelf is as it was
abbrev pub TellsAndRecords : {A S : Type 0} → Writing S → Bor (List ℕ) → (Reply → Type 0) → (FileFault A → Type 0)
    → S → S → SinkState → SinkState → Outcome A → Type 0
TellsAndRecords writes folder IsReply IsFault old new out out' outcome =
    ((reply : Reply) × IsReply reply × RecordsReply writes folder reply old new out out' outcome)
    ⊎ ((new ≡ old) × GivesNoAnswer IsFault out out' outcome)

-- ---- Helpers, no definitions.

-- the text of a file, if there is one, was written to the file of this name; or a fault of that is the program's
abbrev pub KeepsText : {A S : Type 0} → Writing S → Bor (List ℕ) → MadeFiles → S → S → Result Unit (ProgramFault A) → Type 0
KeepsText writes name (one_text text) old new (Ok _) = MakesFile writes name.now text old new (Ok tt)
KeepsText writes name (one_text text) old new (Err f) =
    (why : ShelfFault) × MakesFile writes name.now text old new (Err why) × (f ≡ write_fault name why)
KeepsText writes name files old new result = (new ≡ old) × (result ≡ Ok tt)

-- the file of a reply was printed, if it has one and isn't refused, and else what it says
abbrev pub PrintsFile : {A : Type 0} → Reply → SinkState → SinkState → Outcome A → Type 0
PrintsFile reply out out' outcome =
    ((text : List ℕ) × (reply.fault ≡ None) × (reply.files ≡ one_text text) × PrintsLine text reply.status out out' outcome)
    ⊎ (((text : List ℕ) → reply.fault ≡ None → reply.files ≡ one_text text → ⊥) × PrintsReply reply out out' outcome)

-- what comes of a reply, or of what stands in its place
abbrev pub Answered : Type 0 → Type 0
Answered A = Result (Result Reply (FileFault A)) memory.OutOfMemory

abbrev pub PrintsResult : {A : Type 0} → Answered A → SinkState → SinkState → Outcome A → Type 0
PrintsResult (Ok (Ok reply)) out out' outcome = PrintsReply reply out out' outcome
PrintsResult (Ok (Err fault)) out out' outcome = (out' ≡ out) × (outcome ≡ Err (File fault))
PrintsResult (Err full) out out' outcome = (out' ≡ out) × (outcome ≡ Err OutOfMemory)

abbrev pub KeepsResult : {A S : Type 0} → Writing S → Option (Bor (List ℕ)) → Answered A → S → S → SinkState
    → SinkState → Outcome A → Type 0
KeepsResult writes name (Ok (Ok reply)) old new out out' outcome = KeepsReply writes name reply old new out out' outcome
KeepsResult writes name (Ok (Err fault)) old new out out' outcome =
    (new ≡ old) × (out' ≡ out) × (outcome ≡ Err (File fault))
KeepsResult writes name (Err full) old new out out' outcome = (new ≡ old) × (out' ≡ out) × (outcome ≡ Err OutOfMemory)

abbrev pub RecordsResult : {A S : Type 0} → Writing S → Bor (List ℕ) → Answered A → S → S → SinkState
    → SinkState → Outcome A → Type 0
RecordsResult writes folder (Ok (Ok reply)) old new out out' outcome = RecordsReply writes folder reply old new out out' outcome
RecordsResult writes folder (Ok (Err fault)) old new out out' outcome =
    (new ≡ old) × (out' ≡ out) × (outcome ≡ Err (File fault))
RecordsResult writes folder (Err full) old new out out' outcome =
    (new ≡ old) × (out' ≡ out) × (outcome ≡ Err OutOfMemory)
