-- Which nodes a case asks, and the states that it asks for (Garg and Waldecker 1994).
use Rattle.std.specs.Prelude.{◌≡◌, ◌≢◌, ℕ, ◌<◌, List, Some, All, AllPairs, Contains, length, slice_get}
use Rattle.ira_event.specs.Log.{Log}
use Rattle.ira_pred.specs.Case.{Conjunct}
use Rattle.ira_pred.specs.Formula.{Formula}
use Rattle.ira_cand.specs.Candidates.{AreCandidates}

-- the case asks something of node i
abbrev pub IsAsked : List Conjunct → ℕ → Type 0
IsAsked case i = (f : Formula) × Contains case (record { place = i; formula = f })

-- the case asks something of node i, and these are the candidates of its log for that
pub record CandidatesOf (logs : List Log) (case : List Conjunct) (i : ℕ) (positions : List ℕ) : Type 0 where
  pub formula : Formula
  pub asked : Contains case (record { place = i; formula = formula })
  pub log : Log
  pub log_is : slice_get logs i ≡ Some log
  pub candidates_are : AreCandidates log formula positions

-- the case asks each node for one thing at most
abbrev pub HasDifferentPlaces : List Conjunct → Type 0
HasDifferentPlaces case = AllPairs (λ c d. c.place ≢ d.place) case

-- the case asks nodes of the logs alone
abbrev pub HasPlacesOf : List Log → List Conjunct → Type 0
HasPlacesOf logs case = All (λ c. c.place < length logs) case
