-- Helpers, no definitions: rounds, draw by draw.
use Rattle.std.specs.Prelude.{◌≡◌, ◌⊎◌, ℕ, ◌<◌, List, [], ◌∷◌, ◌++◌, if◌then◌else◌, nat_eq, nat_lt}
use Rattle.std.specs.List.{All}
use Rattle.ira_event.specs.Log.{Log}
use Rattle.ira_election.specs.Draws.{DrewWithin}
use Rattle.ira_view_moment.specs.Rounds.{DrawnRound, IsEarlier}

-- the round with one more draw, and that of one draw
abbrev pub joined : ℕ → ℕ → DrawnRound → DrawnRound
joined place id r = record {
  term = r.term;
  number = r.number;
  draws = r.draws ++ (place, id) ∷ [];
  greatest = if nat_lt r.greatest id then id else r.greatest;
  greatest_of =
      if nat_lt r.greatest id then place ∷ []
      else if nat_eq id r.greatest then r.greatest_of ++ place ∷ [] else r.greatest_of;
}

abbrev pub begun : ℕ → ℕ → ℕ → ℕ → DrawnRound
begun term number place id =
    record { term = term; number = number; draws = (place, id) ∷ []; greatest = id; greatest_of = place ∷ [] }

-- the rounds with one more draw: it joins its round, or begins it between those before and after
pub data IsAdded (term number place id : ℕ) (old new : List DrawnRound) : Type 0 where
  joins : (front : List DrawnRound) (r : DrawnRound) (back : List DrawnRound) → r.term ≡ term → r.number ≡ number
      → old ≡ front ++ r ∷ back → new ≡ front ++ joined place id r ∷ back → IsAdded term number place id old new
  begins : (front back : List DrawnRound) → All (λ r. IsEarlier r term number) front
      → All (λ r. IsEarlier (begun term number place id) r.term r.number) back → old ≡ front ++ back
      → new ≡ front ++ begun term number place id ∷ back → IsAdded term number place id old new

-- the draws within the cut of nodes below p, and those among the first k events of node p
abbrev pub DrewBefore : List Log → List ℕ → ℕ → ℕ → ℕ → ℕ → ℕ → ℕ → Type 0
DrewBefore logs cut p k i term round id =
    (w : DrewWithin logs cut i term round id) × ((i < p) ⊎ ((i ≡ p) × (w.drew.events < k)))
