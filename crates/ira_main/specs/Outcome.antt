-- What the program ends with: a status, or a fault, which is written to standard error.
use Rattle.std.specs.Prelude.{◌≡◌, ◌⊎◌, ◌++◌, ℕ, List, Result, Ok, Err}
use Rattle.ira_event.specs.Sink.{SinkState, Takes, StopsIn}
use Rattle.ira_main.specs.ProgramFault.{program_fault_status, program_fault_text}
use Rattle.ira_view.specs.Status.{status_number}
use Rattle.ira_main.specs.declared.program_fault.ProgramFault.{ProgramFault}
use Rattle.ira_main.specs.declared.program_fault.ProgramFault.TheVariants.{CannotWriteAnswer, File, OutOfMemory}
use Rattle.ira_main.specs.declared.file_fault.FileFault.{FileFault}
use Rattle.ira_view.specs.declared.status.Status.{Status}

-- a status, or a fault
abbrev pub Outcome : Type 0 → Type 0
Outcome A = Result Status (ProgramFault A)

-- the number of the status, or of the fault's status
abbrev pub outcome_number : {A : Type 0} → Outcome A → ℕ
outcome_number (Ok status) = status_number status
outcome_number (Err f) = status_number (program_fault_status f)

-- nothing is written of a status; the text of a fault, and what is told after it, are written whole, or to where that fails
abbrev pub ReportsOutcome : {A : Type 0} → Outcome A → List ℕ → SinkState → SinkState → Type 0
ReportsOutcome (Ok status) more old new = new ≡ old
ReportsOutcome (Err f) more old new =
    Takes (program_fault_text f ++ more) old new ⊎ StopsIn (program_fault_text f ++ more) old new

-- the text was printed whole, and the outcome is this status; or the output stopped within it, and the outcome says so
abbrev pub PrintsLine : {A : Type 0} → List ℕ → Status → SinkState → SinkState → Outcome A → Type 0
PrintsLine text status out out' outcome =
    (Takes text out out' × (outcome ≡ Ok status))
    ⊎ (StopsIn text out out' × (outcome ≡ Err CannotWriteAnswer))

-- nothing was printed, and the outcome is a fault of this kind, or that memory ran out
abbrev pub GivesNoAnswer : {A : Type 0} → (FileFault A → Type 0) → SinkState → SinkState → Outcome A → Type 0
GivesNoAnswer {A} IsWhy out out' outcome = (out' ≡ out)
    × (((fault : FileFault A) × IsWhy fault × (outcome ≡ Err (File fault))) ⊎ (outcome ≡ Err OutOfMemory))
