-- What a run of a ring starts from, and the rules that it has to keep.
use Rattle.std.specs.Prelude.{◌≡◌, ℕ, ◌<◌, ◌≤◌, Bool, true, false, List, [], All, length, slice_index_or}
use Rattle.ira_event.specs.Limits.{MAX_NUMBER, MAX_RECORDS}
use Rattle.ira_event.specs.RingSize.{IsRingSize}

-- the ring's size, whether each node is an initiator, the IDs that each node is given to draw, in their
-- order, the most events of a node, and how many terms there are
pub record Setup : Type 0 where
  pub nodes : ℕ
  pub initiators : List Bool
  pub draws : List (List ℕ)
  pub cap : ℕ
  pub terms : ℕ

-- whether node i is an initiator
abbrev pub is_initiator : Setup → ℕ → Bool
is_initiator s i = slice_index_or s.initiators i false

-- the IDs that node i is given to draw
abbrev pub node_draws : Setup → ℕ → List ℕ
node_draws s i = slice_index_or s.draws i []

-- there is a start kind, and a list of IDs, for each node
abbrev pub IsForEachNode : Setup → Type 0
IsForEachNode s = (length s.initiators ≡ s.nodes) × (length s.draws ≡ s.nodes)

-- some node is an initiator
abbrev pub HasInitiator : Setup → Type 0
HasInitiator s = (i : ℕ) × (i < s.nodes) × (is_initiator s i ≡ true)

-- each node is given IDs of 1 to the number of nodes
abbrev pub GivesIds : Setup → Type 0
GivesIds s = (i : ℕ) → i < s.nodes → All (λ d. (1 ≤ d) × (d ≤ s.nodes)) (node_draws s i)

-- a node may have at least one event, and at most as many as a log may have
abbrev pub HasCap : Setup → Type 0
HasCap s = (1 ≤ s.cap) × (s.cap ≤ MAX_RECORDS)

-- there is at least one term, and no more than a node can count
abbrev pub HasTerms : Setup → Type 0
HasTerms s = (1 ≤ s.terms) × (s.terms ≤ MAX_NUMBER)

-- a setup that keeps the rules
pub record KeepsRules (s : Setup) : Type 0 where
  pub size : IsRingSize s.nodes
  pub lists : IsForEachNode s
  pub initiator : HasInitiator s
  pub ids : GivesIds s
  pub cap : HasCap s
  pub terms : HasTerms s
