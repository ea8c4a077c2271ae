-- Helpers, no definitions: the candidates of a case as lists, one for each node that it asks.
use Rattle.std.specs.Prelude.{◌≡◌, ℕ, ◌<◌, List, Some, All, slice_get}
use Rattle.ira_event.specs.Log.{Log}
use Rattle.ira_pred.specs.Case.{Conjunct}
use Rattle.ira_cert.specs.Conjuncts.{IsAsked, CandidatesOf}

-- the candidates of the node at the place
pub record CandidateTable : Type 0 where
  pub place : ℕ
  pub positions : List ℕ

-- they are a conjunct's of the case, the one of this number
abbrev pub IsTableFor : List Log → List Conjunct → ℕ → CandidateTable → Type 0
IsTableFor logs case n table =
    (c : Conjunct) × (slice_get case n ≡ Some c) × (table.place ≡ c.place)
    × CandidatesOf logs case c.place table.positions

-- there is such a list for place i
abbrev pub IsListAt : List CandidateTable → ℕ → List ℕ → Type 0
IsListAt tables i positions = (n : ℕ) × (slice_get tables n ≡ Some (record { place = i; positions = positions }))

-- a list for each place that the case asks and for no other, and it has the candidates of that place
pub record AreTables (logs : List Log) (case : List Conjunct) (tables : List CandidateTable) : Type 0 where
  pub asked : (i : ℕ) → IsAsked case i → (positions : List ℕ) × IsListAt tables i positions
  pub lists : (i : ℕ) (positions : List ℕ) → IsListAt tables i positions → CandidatesOf logs case i positions

-- the places are below this one
abbrev pub AreBelow : ℕ → List CandidateTable → Type 0
AreBelow places tables = All (λ table. table.place < places) tables
