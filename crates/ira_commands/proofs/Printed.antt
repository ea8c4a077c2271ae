-- What is printed of a text that was written into memory.
use Rattle.std.proofs.Common.{◌≡◌, ◌∙◌, ◌++◌, ℕ, List, [], Some, ap}
use Rattle.ira_event.specs.Sink.{Memory, SinkState, Takes}
use Rattle.ira_view.specs.declared.status.Status.{Status}
use Rattle.ira_commands.specs.Reply.{Prints, Reply, printed}

-- the state of a sink in memory
abbrev pub state_of : Memory → SinkState
state_of sink = record { taken = Some sink.bytes; failures = sink.failures }

-- such a text is printed, where a sink took it first
pub prints : (IsText : List ℕ → Type 0) (status : Status) (reply : Reply) (old new : Memory)
    → old ≡ record { bytes = []; failures = 0 } → (text : List ℕ) → IsText text → Takes text (state_of old) (state_of new)
    → reply ≡ printed status new.bytes → Prints IsText status reply
prints IsText status reply old new first text is wrote told = (
  text,
  is,
  told ∙ ap (λ (t : List ℕ). printed status t) (wrote.took ∙ ap (λ (m : Memory). m.bytes ++ text) first),
)
