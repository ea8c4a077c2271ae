-- What a sentence says of the states of a ring's nodes.
use Rattle.std.specs.Prelude.{◌≡◌, ◌≢◌, ℕ, ◌<◌, ⊤, Option, Some, None}
use Rattle.ira_pred.specs.Formula.{Formula}
use Rattle.ira_ask.specs.declared.places.Places.{Places}

-- up to four things at once: a node has some state, another one has some state, each node that was picked for neither
-- has some state, and so has each node
pub record Parts : Type 0 where
  pub any : Option Formula
  pub other : Option Formula
  pub each_other : Option Formula
  pub all : Option Formula

-- these parts, or what the node at a place is like
pub data Sentence : Type 0 where
  of_parts : Parts → Sentence
  of_node : ℕ → Formula → Sentence

-- the place, if there is one, is one of a ring of n nodes, and what is asked of it holds there
abbrev pub IsPicked : ℕ → (Formula → ℕ → Type 0) → Option Formula → Option ℕ → Type 0
IsPicked n At None None = ⊤
IsPicked n At (Some f) (Some i) = (i < n) × At f i
IsPicked n At f i = ⊥

-- what is asked, if it is, holds at the place
abbrev pub HasWanted : (Formula → ℕ → Type 0) → Option Formula → ℕ → Type 0
HasWanted At None p = ⊤
HasWanted At (Some f) p = At f p

-- the parts hold in a ring of n nodes, where `At f p` says that the formula f holds of the node at place p
pub record PartsSay (n : ℕ) (At : Formula → ℕ → Type 0) (s : Parts) : Type 0 where
  pub picked : Places
  pub any : IsPicked n At s.any picked.any
  pub other : IsPicked n At s.other picked.other
  pub different : (i : ℕ) → picked.any ≡ Some i → picked.other ≢ Some i
  pub each_other :
      (p : ℕ) → p < n → picked.any ≢ Some p → picked.other ≢ Some p → HasWanted At s.each_other p
  pub all : (p : ℕ) → p < n → HasWanted At s.all p

-- the sentence holds there
abbrev pub Says : ℕ → (Formula → ℕ → Type 0) → Sentence → Type 0
Says n At (of_parts s) = PartsSay n At s
Says n At (of_node p f) = (p < n) × At f p
