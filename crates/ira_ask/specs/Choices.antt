-- Which nodes may be picked for a sentence.
use Rattle.std.specs.Prelude.{◌≡◌, ◌≢◌, ℕ, ◌+◌, ◌-◌, List, [], ◌∷◌, ◌++◌, map, Option, Some, None}
use Rattle.std.specs.List.{flat_map}
use Rattle.ira_pred.specs.Formula.{Formula}
use Rattle.ira_pred.specs.Pairs.{numbers_from}
use Rattle.ira_ask.specs.declared.picks.Picks.{Picks}
use Rattle.ira_ask.specs.declared.places.Places.{Places}
use Rattle.ira_ask.specs.declared.picks.Picks.TheVariants.{Nobody, One, Two, Alike}

-- how many nodes are picked for these: none, one, two, or two of which the same is asked
abbrev pub PicksOf : Option Formula → Option Formula → Picks → Type 0
PicksOf any other Nobody = (any ≡ None) × (other ≡ None)
PicksOf any other One = (any ≢ None) × (other ≡ None)
PicksOf any other Two = (any ≢ None) × (other ≢ None) × (any ≢ other)
PicksOf any other Alike = (any ≢ None) × (any ≡ other)

abbrev pub nobody : Places
nobody = record { any = None; other = None }

abbrev pub one : ℕ → Places
one i = record { any = Some i; other = None }

abbrev pub two : ℕ → ℕ → Places
two i j = record { any = Some i; other = Some j }

-- the places after place i in a ring of n nodes
abbrev pub places_after : ℕ → ℕ → List ℕ
places_after n i = numbers_from (i + 1) (n - (i + 1))

-- all ways to pick them in a ring of n nodes, in lexicographic order; of two of which the same is asked the first has
-- the lesser place
abbrev pub choices : ℕ → Picks → List Places
choices n Nobody = nobody ∷ []
choices n One = map one (numbers_from 0 n)
choices n Two = flat_map (λ i. map (two i) (numbers_from 0 i) ++ map (two i) (places_after n i)) (numbers_from 0 n)
choices n Alike = flat_map (λ i. map (two i) (places_after n i)) (numbers_from 0 n)
