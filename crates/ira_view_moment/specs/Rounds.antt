-- Rounds in which nodes drew.
use Rattle.std.specs.Prelude.{◌≡◌, ◌⊎◌, ℕ, ◌<◌, ◌≤◌, Contains, List, [], ◌∷◌, ⊤}
use Rattle.ira_event.specs.Log.{Log}
use Rattle.ira_election.specs.Draws.{DrewWithin}
use Rattle.ira_view_moment.specs.Those.{AreThose, AreThosePlaces}
use Rattle.ira_view_moment.specs.declared.rounds.Round.{Round}

-- a round of a term: the places that drew, each with its ID, the greatest ID, and the places that drew it
pub record DrawnRound : Type 0 where
  pub term : ℕ
  pub number : ℕ
  pub draws : List (ℕ × ℕ)
  pub greatest : ℕ
  pub greatest_of : List ℕ

abbrev pub drawn : {A : Type 0} → Round A → DrawnRound
drawn round = record {
  term = round.term;
  number = round.number;
  draws = round.draws.items;
  greatest = round.greatest;
  greatest_of = round.greatest_of.items;
}

-- which IDs are drawn: by a node, in a round of a term, an ID
abbrev pub Draws : Type 1
Draws = ℕ → ℕ → ℕ → ℕ → Type 0

-- of the draws these are the round's
pub record IsRoundOf (D : Draws) (r : DrawnRound) : Type 0 where
  pub draws : AreThose (λ d. d.0) (λ d. D d.0 r.term r.number d.1) r.draws
  pub none_greater : (i id : ℕ) → D i r.term r.number id → id ≤ r.greatest
  pub greatest_of : AreThosePlaces (λ i. D i r.term r.number r.greatest) r.greatest_of
  pub somebody : (i : ℕ) × D i r.term r.number r.greatest

-- the round is earlier than this one of the term
abbrev pub IsEarlier : DrawnRound → ℕ → ℕ → Type 0
IsEarlier r term number = (r.term < term) ⊎ ((r.term ≡ term) × (r.number < number))

abbrev pub AreInOrder : List DrawnRound → Type 0
AreInOrder [] = ⊤
AreInOrder (r ∷ rounds) =
    ((s : DrawnRound) → Contains rounds s → IsEarlier r s.term s.number) × AreInOrder rounds

abbrev pub HasRound : List DrawnRound → ℕ → ℕ → Type 0
HasRound rounds term number = (r : DrawnRound) × Contains rounds r × (r.term ≡ term) × (r.number ≡ number)

-- these are the rounds of the draws, in their order
pub record AreRoundsOf (D : Draws) (rounds : List DrawnRound) : Type 0 where
  pub each : (r : DrawnRound) → Contains rounds r → IsRoundOf D r
  pub all : (i term number id : ℕ) → D i term number id → HasRound rounds term number
  pub in_order : AreInOrder rounds

-- these are the rounds in which nodes drew within the cut
abbrev pub AreRounds : List Log → List ℕ → List DrawnRound → Type 0
AreRounds logs cut rounds = AreRoundsOf (DrewWithin logs cut) rounds
