-- Why what was received on a link, from a receipt on, isn't what was sent.
use Rattle.std.specs.Prelude.{◌≡◌, ℕ, ◌<◌, ◌+◌, List, [], ◌∷◌, ◌++◌, length}
use Rattle.ira_event.specs.declared.load.Load.{Load}
use Rattle.ira_view_evidence.specs.declared.link_cause.LinkCause.{LinkCause}
use Rattle.ira_view_evidence.specs.declared.link_cause.LinkCause.TheVariants.{NoReceipt, NoSending, CameTwice}

-- these loads begin with those
abbrev pub BeginsWith : List Load → List Load → Type 0
BeginsWith loads front = (rest : List Load) × (loads ≡ front ++ rest)

-- what was received is `those`, where what was sent is `these`, and after them what was sent, as far as it goes
pub record IsReceivedFor (these those sent received : List Load) : Type 0 where
  pub after : List Load
  pub rest : List Load
  pub sent_is : sent ≡ these ++ after
  pub received_is : received ≡ those ++ rest
  pub goes_on : BeginsWith after rest

-- the last load was received once more
abbrev pub IsTwice : List Load → List Load → List Load → Type 0
IsTwice before sent received = (load : Load) × (front : List Load) × (before ≡ front ++ load ∷ [])
    × IsReceivedFor [] (load ∷ []) sent received

-- why what was received after these loads isn't what was sent after them
abbrev pub ExplainsRest : LinkCause → List Load → List Load → List Load → Type 0
-- the next sendings, so many, have no receipt
ExplainsRest (NoReceipt count) before sent received =
    (lost : List Load) × (length lost ≡ count) × IsReceivedFor lost [] sent received
-- the next receipts, so many, have no sending, and those after them have
ExplainsRest (NoSending count) before sent received = (count < length received)
    × (added : List Load) × (length added ≡ count) × IsReceivedFor [] added sent received
ExplainsRest CameTwice before sent received = IsTwice before sent received

-- what was received before receipt k is what was sent, and from there on it is as the cause has it; where receipt k
-- isn't what was sent, this is why
pub record Explains (cause : LinkCause) (sent received : List Load) (k : ℕ) : Type 0 where
  pub before : List Load
  pub sent_after : List Load
  pub received_after : List Load
  pub sent_is : sent ≡ before ++ sent_after
  pub received_is : received ≡ before ++ received_after
  pub number : k ≡ length before + 1
  pub why : ExplainsRest cause before sent_after received_after

-- What follows helps to find the cause.

-- what was sent after so many loads begins with what was received after so many others
abbrev pub GoesOn : ℕ → ℕ → List Load → List Load → Type 0
GoesOn skipped passed sent received = (these those : List Load) × (length these ≡ skipped) × (length those ≡ passed)
    × IsReceivedFor these those sent received
