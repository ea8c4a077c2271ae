-- Why numbers of events are not a consistent cut of logs.
use Rattle.std.specs.Prelude.{◌≡◌, ◌⊎◌, ℕ, ◌<◌, ◌≤◌, List, length, slice_index, take}
use Rattle.ira_event.specs.Log.{Log}
use Rattle.ira_order.specs.declared.event_at.EventAt.{EventAt}
use Rattle.ira_order.specs.Cut.{IsCut}
use Rattle.ira_order.specs.Matching.{got, sent}
use Rattle.ira_order.specs.Order.{IsPair}
use Rattle.ira_order.specs.Ring.{log_of, next}
use Rattle.ira_view_moment.specs.declared.cut_fault.CutFault.{CutFault}
use Rattle.ira_view_moment.specs.declared.cut_fault.CutFault.TheVariants.{NoCut, LacksSending}

-- event b of the node after node i is in the cut, and event a of node i, the sending that it receives, is not
pub record IsLacking (logs : List Log) (cut : List ℕ) (i a b : ℕ) : Type 0 where
  pub pair : IsPair logs i a b
  pub held : b ≤ slice_index cut (next (length logs) i)
  pub not_held : slice_index cut i < a

-- the event stands at an earlier place than event b of node j, or at the same place and no later
abbrev pub IsNotAfter : EventAt → ℕ → ℕ → Type 0
IsNotAfter at j b = (at.place < j) ⊎ ((at.place ≡ j) × (at.position ≤ b))

-- the receipt is in the cut and its sending is not; and it is the first such receipt
pub record IsFirstLacking (logs : List Log) (cut : List ℕ) (receipt sending : EventAt) : Type 0 where
  pub lacking : IsLacking logs cut sending.place sending.position receipt.position
  pub reader : receipt.place ≡ next (length logs) sending.place
  pub first : (i a b : ℕ) → IsLacking logs cut i a b → IsNotAfter receipt (next (length logs) i) b

-- the numbers are no cut, or one without the sending of a receipt that it holds
abbrev pub IsCutFault : List Log → List ℕ → CutFault → Type 0
IsCutFault logs cut NoCut = ¬ (IsCut logs cut)
IsCutFault logs cut (LacksSending receipt sending) = IsCut logs cut × IsFirstLacking logs cut receipt sending

-- ---- helpers, no definitions: one node's receipts after the other's

-- the cut holds no more receipts of link i than sendings
abbrev pub HoldsSendings : List Log → List ℕ → ℕ → Type 0
HoldsSendings logs cut i =
    length (got (take (slice_index cut (next (length logs) i)) (log_of logs (next (length logs) i))))
    ≤ length (sent (take (slice_index cut i) (log_of logs i)))

-- the receipt is the first of node j that the cut holds without its sending
pub record IsFirstLackingOf (logs : List Log) (cut : List ℕ) (j : ℕ) (receipt sending : EventAt) : Type 0 where
  pub lacking : IsLacking logs cut sending.place sending.position receipt.position
  pub reader : receipt.place ≡ next (length logs) sending.place
  pub node : receipt.place ≡ j
  pub first : (a b : ℕ) → IsLacking logs cut sending.place a b → receipt.position ≤ b

abbrev pub IsLackOf : List Log → List ℕ → ℕ → CutFault → Type 0
IsLackOf logs cut j NoCut = ⊥
IsLackOf logs cut j (LacksSending receipt sending) = IsFirstLackingOf logs cut j receipt sending
