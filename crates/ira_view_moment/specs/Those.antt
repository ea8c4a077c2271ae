-- Those of which something holds.
use Rattle.std.specs.Prelude.{◌↔◌, ℕ, Contains, List}
use Rattle.ira_order.specs.FaultyEvent.{Rises}

-- they are those of which it holds, with numbers that rise
pub record AreThose {X : Type 0} (number : X → ℕ) (P : X → Type 0) (xs : List X) : Type 0 where
  pub rise : Rises number xs
  pub those : (x : X) → Contains xs x ↔ P x

-- the same of places
abbrev pub AreThosePlaces : (ℕ → Type 0) → List ℕ → Type 0
AreThosePlaces P places = AreThose (λ i. i) P places
