-- Who can still lead in a term, by what was drawn within a cut.
use Rattle.std.specs.Prelude.{◌≡◌, ◌⊎◌, ℕ, ◌≤◌, Bool, List, [], slice_index, ⊤, ◌&&◌, nat_eq, nat_lt}
use Rattle.std.specs.List.{list_any}
use Rattle.ira_election.specs.Draws.{DrewWithin, IsContender}
use Rattle.ira_event.specs.Log.{Log}
use Rattle.ira_node.specs.declared.node_state.NodeState.{NodeState}
use Rattle.ira_safety.specs.OneLeader.{IsIn}
use Rattle.ira_view_election.specs.Election.{Standing, goes_on, over}
use Rattle.ira_view_moment.specs.Rounds.{DrawnRound, drawn}
use Rattle.ira_view_moment.specs.Those.{AreThosePlaces}
use Rattle.ira_view_moment.specs.declared.rounds.Round.{Round}

-- the places are those of the contenders of the term in which the last draws were; no node is in a later one
pub record AreContenders (logs : List Log) (cut places : List ℕ) : Type 0 where
  pub term : ℕ
  pub drawn : (i round id : ℕ) × DrewWithin logs cut i term round id
  pub latest : (i : ℕ) (state : NodeState) → IsIn logs i (slice_index cut i) state → state.term ≤ term
  pub those : AreThosePlaces (IsContender logs cut term) places

-- of an election that isn't over they are named, or it is left unsaid who can still lead
abbrev pub NamesContenders : List Log → List ℕ → Standing → Type 0
NamesContenders logs cut over = ⊤
NamesContenders logs cut (goes_on next contenders) = (contenders ≡ []) ⊎ AreContenders logs cut contenders

-- ---- helpers, no definitions: by the rounds

-- the node drew in the round, and another one more
abbrev pub drew_less : ℕ → DrawnRound → Bool
drew_less i r = list_any (λ d. nat_eq d.0 i && nat_lt d.1 r.greatest) r.draws

-- the same in a round of the term
abbrev pub is_outdrawn : {A : Type 0} → List (Round A) → ℕ → ℕ → Bool
is_outdrawn rounds term i = list_any (λ r. nat_eq r.term term && drew_less i (drawn r)) rounds
