-- What the program does without waiting.
use Rattle.std.specs.Prelude.{◌≡◌, ℕ, false, List}
use Rattle.ira_event.specs.Sink.{SinkState}
use Rattle.ira_main_cli.specs.Request.{IsCheckLine, IsRunLine}
use Rattle.ira_main_files.specs.CountingReader.{Reads}
use Rattle.ira_main_files.specs.Shelf.{Reading, Writing}
use Rattle.ira_main.specs.Serve.{Serves}
use Rattle.ira_main.specs.declared.progress.Progress.{Progress}
use Rattle.ira_main.specs.declared.progress.Progress.TheVariants.{Ended, Check, Run}

-- nothing was read and nothing written
pub record IsUntouched {S : Type 0} (input input' : Reads) (shelf shelf' : S) (out out' : SinkState) : Type 0 where
  pub input_is : input' ≡ input
  pub shelf_is : shelf' ≡ shelf
  pub out_is : out' ≡ out

-- what the words ask for was done; or they ask for a check, or for a run with a thread for each node, and nothing was
abbrev pub ServesOrLeaves : (A : Type 0) → {S : Type 0} → Reading S → Writing S → List (List ℕ) → Reads → Reads → S → S
    → SinkState → SinkState → Progress A → Type 0
ServesOrLeaves A reads writes words input input' shelf shelf' out out' (Ended outcome) =
    Serves A reads writes words input input' shelf shelf' out out' outcome
ServesOrLeaves A reads writes words input input' shelf shelf' out out' (Check check) =
    IsCheckLine words check × IsUntouched input input' shelf shelf' out out'
ServesOrLeaves A reads writes words input input' shelf shelf' out out' (Run ring) =
    IsRunLine words ring × (ring.is_alone ≡ false) × IsUntouched input input' shelf shelf' out out'
