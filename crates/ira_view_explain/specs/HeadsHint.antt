-- What a hint of heads says of them.
use Rattle.std.specs.Prelude.{◌≡◌, ◌↔◌, ◌<◌, ⊤, ℕ, List, Some, AllPairs, Contains, slice_get}
use Rattle.ira_event.specs.declared.log_head.LogHead.{LogHead}
use Rattle.ira_view_explain.specs.declared.heads_hint.HeadsHint.{HeadsHint}
use Rattle.ira_view_explain.specs.declared.heads_hint.HeadsHint.TheVariants.{Exchanged, MissingPlaces, PlaceTwice}

-- the head of this number is of this place
abbrev pub IsOfPlace : List LogHead → ℕ → ℕ → Type 0
IsOfPlace heads i place = (head : LogHead) × (slice_get heads i ≡ Some head) × (head.place ≡ place)

-- none of the heads is of this place
abbrev pub HasNoPlace : List LogHead → ℕ → Type 0
HasNoPlace heads place = (i : ℕ) → ¬ (IsOfPlace heads i place)

-- these are just the places of a ring of so many nodes that none of the heads is of, in ascending order
pub record AreMissing (heads : List LogHead) (nodes : ℕ) (places : List ℕ) : Type 0 where
  pub rising : AllPairs (λ a b. a < b) places
  pub members : (place : ℕ) → Contains places place ↔ ((place < nodes) × HasNoPlace heads place)

-- it is so of the heads
abbrev pub IsSo : {A : Type 0} → List LogHead → HeadsHint A → Type 0
-- the first head says how many nodes there are
IsSo heads (MissingPlaces places) =
    (first : LogHead) × (slice_get heads 0 ≡ Some first) × AreMissing heads first.nodes places.items
IsSo heads (PlaceTwice place) = (i j : ℕ) × (i < j) × IsOfPlace heads i place × IsOfPlace heads j place
IsSo heads (Exchanged log other) = IsOfPlace heads log other × IsOfPlace heads other log
-- of the others nothing is said here
IsSo heads hint = ⊤
