-- The question whether two nodes ever lead at once.
use Rattle.std.specs.Prelude.{◌≡◌, ℕ, zero, suc, ◌+◌, ◌-◌, ◌<◌, ◌⊎◌, List, [], ◌∷◌, map, All, AllPairs, Contains}
use Rattle.std.specs.List.{flat_map}
use Rattle.ira_pred.specs.Formula.{leader}
use Rattle.ira_pred.specs.Case.{Conjunct}
use Rattle.ira_pred.specs.Question.{QuestionCases}

-- the nodes at both places lead
abbrev pub pair_case : ℕ → ℕ → List Conjunct
pair_case i j = record { place = i; formula = leader } ∷ record { place = j; formula = leader } ∷ []

-- one pair of places comes before another in lexicographic order
abbrev pub IsBefore : ℕ × ℕ → ℕ × ℕ → Type 0
IsBefore p q = (p.0 < q.0) ⊎ ((p.0 ≡ q.0) × (p.1 < q.1))

-- the cases of all pairs of places i < j below n, each once, in lexicographic order
pub record ArePairCases (n : ℕ) (cases : List (List Conjunct)) : Type 0 where
  pub pairs : List (ℕ × ℕ)
  pub each : All (λ p. (p.0 < p.1) × (p.1 < n)) pairs
  pub every : (i j : ℕ) → i < j → j < n → Contains pairs (i, j)
  pub in_order : AllPairs IsBefore pairs
  pub cases_are : cases ≡ map (λ p. pair_case p.0 p.1) pairs

-- The same written out.

-- so many numbers, rising by one from the first
abbrev pub numbers_from : ℕ → ℕ → List ℕ
numbers_from first zero = []
numbers_from first (suc count) = first ∷ numbers_from (first + 1) count

-- the cases of place i and each later place below n, in their order
abbrev pub cases_of_place : ℕ → ℕ → List (List Conjunct)
cases_of_place n i = map (pair_case i) (numbers_from (i + 1) (n - (i + 1)))

-- the question of all these pairs
abbrev pub pairs_asked : ℕ → QuestionCases
pairs_asked n = record { nodes = n; cases = flat_map (cases_of_place n) (numbers_from 0 n) }
