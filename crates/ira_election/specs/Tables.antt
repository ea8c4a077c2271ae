-- Whom a table of draws elects, told before anything runs: row r has the ID that each node draws in round r, if it does.
use Rattle.std.specs.Prelude.{◌≡◌, ◌≢◌, ℕ, zero, suc, ◌+◌, ◌≤◌, ◌⊎◌, Bool, true, List, [], ◌∷◌, ◌++◌, Some, slice_get}
use Rattle.std.specs.Prelude.{slice_index, length, map}
use Rattle.ira_event.specs.Log.{Log}
use Rattle.ira_event.specs.Logs.{AreLogs}
use Rattle.ira_event.specs.Messages.{drawn}
use Rattle.ira_node.specs.declared.node_state.NodeState.{NodeState}
use Rattle.ira_node.specs.declared.phase.Phase.TheVariants.{Leader}
use Rattle.ira_order.specs.Matching.{Matches}
use Rattle.ira_order.specs.Ring.{log_of}
use Rattle.ira_order.specs.Run.{AreLocalRuns}
use Rattle.ira_safety.specs.OneLeader.{IsIn}
use Rattle.ira_election.specs.Draws.{Drew, Starts}
use Rattle.ira_election.specs.Rounds.{drawn_by, with_id, elects_nobody}
use Rattle.ira_election.specs.Ways.{greatest, tied}

-- of those still in it who drew the greatest
abbrev pub on : List Bool → List ℕ → List Bool
on those row = with_id (greatest (drawn_by those row)) those row

-- the table elects node i: in the first row where one node of those still in it has the greatest, it is node i
abbrev pub Elects : List Bool → List (List ℕ) → ℕ → Type 0
Elects those [] i = ⊥
Elects those (row ∷ rows) i =
    ((tied (drawn_by those row) ≡ 1) × (slice_get (on those row) i ≡ Some true))
    ⊎ ((tied (drawn_by those row) ≢ 1) × Elects (on those row) rows i)

-- of n nodes just these are so
pub record Are (n : ℕ) (those : List Bool) (IsSo : ℕ → Type 0) : Type 0 where
  pub count : length those ≡ n
  pub so : (j : ℕ) → slice_get those j ≡ Some true → IsSo j
  pub all : (j : ℕ) → IsSo j → slice_get those j ≡ Some true

-- the table has what is drawn in the term
pub record HasDraws (logs : List Log) (term : ℕ) (rows : List (List ℕ)) : Type 0 where
  pub wide : (r : ℕ) (row : List ℕ) → slice_get rows r ≡ Some row → length row ≡ length logs
  pub ids : (j r id : ℕ) (row : List ℕ) → slice_get rows r ≡ Some row → Drew logs j term (r + 1) id
      → slice_get row j ≡ Some id

-- who leads, in a round for which the table has a row, is whom the table elects
abbrev pub LeadersAreElected : Type 0
LeadersAreElected =
    (logs : List Log) → AreLogs logs → Matches logs → AreLocalRuns logs
    → (i events last id : ℕ) (state : NodeState) → IsIn logs i events state → state.phase ≡ Leader last id
    → (those : List Bool) (rows : List (List ℕ)) → Are (length logs) those (Starts logs state.term)
    → HasDraws logs state.term rows → last ≤ length rows → Elects those rows i

-- a table elects one node at most
abbrev pub TablesElectOne : Type 0
TablesElectOne =
    (those : List Bool) (rows : List (List ℕ)) (i j : ℕ) → Elects those rows i → Elects those rows j → i ≡ j

-- and those that elect are not among those that elect nobody
abbrev pub ElectedIsSomebody : Type 0
ElectedIsSomebody =
    (those : List Bool) (rows : List (List ℕ)) (i : ℕ) → Elects those rows i → elects_nobody those rows ≡ 0

-- of lists of IDs, one for each node, the table: a row has the next ID of each list, and 0 where there is none
abbrev pub row_of : List (List ℕ) → ℕ → List ℕ
row_of lists r = map (λ ids. slice_index ids r) lists

abbrev pub rows_from : List (List ℕ) → ℕ → ℕ → List (List ℕ)
rows_from lists r zero = []
rows_from lists r (suc k) = row_of lists r ∷ rows_from lists (r + 1) k

-- what each node draws is the first part of its list
pub record DrawFrom (logs : List Log) (lists : List (List ℕ)) : Type 0 where
  pub count : length lists ≡ length logs
  pub first : (j : ℕ) (ids : List ℕ) → slice_get lists j ≡ Some ids → (rest : List ℕ) × (ids ≡ drawn (log_of logs j) ++ rest)

-- who leads in the first term is whom the lists elect that nodes are given to draw from, as those of a setup
abbrev pub FirstLeadersAreElected : Type 0
FirstLeadersAreElected =
    (logs : List Log) → AreLogs logs → Matches logs → AreLocalRuns logs
    → (i events last id : ℕ) (state : NodeState) → IsIn logs i events state → state.phase ≡ Leader last id
    → state.term ≡ 1 → (those : List Bool) (lists : List (List ℕ)) (rounds : ℕ)
    → Are (length logs) those (Starts logs 1) → DrawFrom logs lists → last ≤ rounds
    → Elects those (rows_from lists 0 rounds) i
