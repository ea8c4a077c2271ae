-- Helpers, no definitions: where the nodes stand while states are eliminated, and what they know there.
use Rattle.std.specs.Prelude.{◌≡◌, ◌≢◌, ℕ, ◌+◌, ◌<◌, ◌≤◌, ◌⊎◌, List, Some, Contains, length, slice_get}
use Rattle.std.specs.Prelude.{slice_index, slice_set}
use Rattle.ira_event.specs.declared.event.Event.TheVariants.{Got}
use Rattle.ira_event.specs.declared.load.Load.{Load}
use Rattle.ira_event.specs.Log.{Log}
use Rattle.ira_order.specs.Before.{Before}
use Rattle.ira_order.specs.Circle.{HasOrder}
use Rattle.ira_order.specs.Ring.{log_of}
use Rattle.ira_order.specs.DirectDependencies.{distance}
use Rattle.ira_order.specs.VectorClock.{AreCountsOfOthers}
use Rattle.ira_elim.specs.PairSet.{Has}

-- a position of a node, and a number for each node of the ring, written at a position that may be an earlier one
pub record CandidateClock : Type 0 where
  pub position : ℕ
  pub counted_at : ℕ
  pub counts : List ℕ

-- node j stands at q, with its counts of the other nodes there or earlier, in logs that have an order
pub record IsCandidateClock (logs : List Log) (j q : ℕ) (s : CandidateClock) : Type 0 where
  pub position : s.position ≡ q
  pub earlier : s.counted_at ≤ q
  pub counts : AreCountsOfOthers logs j s.counted_at s.counts
  pub order : HasOrder logs

-- its counts are those at its position
abbrev pub IsCounted : CandidateClock → Type 0
IsCounted s = s.counted_at ≡ s.position

-- node i stands at the most at position p, if it stands
abbrev pub StandsUpTo : List Log → List CandidateClock → ℕ → ℕ → Type 0
StandsUpTo logs stands i p = (s : CandidateClock) → slice_get stands i ≡ Some s → (s.position ≤ p)
    × IsCandidateClock logs i s.position s

-- node i has moved on to position p, and no other has moved
abbrev pub HasMovedOn : List Log → List CandidateClock → List CandidateClock → ℕ → ℕ → Type 0
HasMovedOn logs old new i p = (s : CandidateClock) × (new ≡ slice_set old i s) × IsCandidateClock logs i p s

-- none of the events after the first `from`, up to the first `to`, is a receipt
abbrev pub AreNoReceipts : Log → ℕ → ℕ → Type 0
AreNoReceipts log from to = (k : ℕ) (m : Load) → from ≤ k → k < to → slice_get log.events k ≢ Some (Got m)

-- node j knows no more of the others at q than at p
abbrev pub LearnsNothing : List Log → ℕ → ℕ → ℕ → Type 0
LearnsNothing logs j p q = (i a : ℕ) → i ≢ j → Before logs i a j q → Before logs i a j p

-- node j counts more events of node i than lie before i's position
abbrev pub KnowsNext : List CandidateClock → ℕ → ℕ → Type 0
KnowsNext stands j i =
    (s : CandidateClock) × (t : CandidateClock) × (slice_get stands i ≡ Some s) × (slice_get stands j ≡ Some t)
    × (s.position < slice_index t.counts i)

-- the event that leads on from where node i stands happened before event q of node j
abbrev pub RulesOut : List Log → List CandidateClock → ℕ → ℕ → ℕ → Type 0
RulesOut logs stands j q i = (s : CandidateClock) × (slice_get stands i ≡ Some s) × (i ≢ j)
    × Before logs i (s.position + 1) j q

-- the pairs have each asked node that node j rules out where it stands, with node j
abbrev pub HasRuledOutBy : List Log → List CandidateClock → List ℕ → List ℕ → ℕ → Type 0
HasRuledOutBy logs stands asked pairs j = (i : ℕ) (t : CandidateClock) → Contains asked i → slice_get stands j ≡ Some t
    → RulesOut logs stands j t.position i → Has pairs i j

-- so for each asked node
abbrev pub HasRuledOut : List Log → List CandidateClock → List ℕ → List ℕ → Type 0
HasRuledOut logs stands asked pairs = (j : ℕ) → Contains asked j → HasRuledOutBy logs stands asked pairs j

-- at each of these places a node stands, with a number for each node
abbrev pub AreStanding : List CandidateClock → List ℕ → Type 0
AreStanding stands places =
    (i : ℕ) → Contains places i → (s : CandidateClock) × (slice_get stands i ≡ Some s)
    × (length s.counts ≡ length stands)

-- each of these places is one of the ring, and its node stands at a state of its log
abbrev pub AreInLogs : List Log → List CandidateClock → List ℕ → Type 0
AreInLogs logs stands places =
    (i : ℕ) → Contains places i → (s : CandidateClock) × (slice_get stands i ≡ Some s) × (i < length logs)
    × (s.position ≤ length (log_of logs i))

-- of the other places, `near` is the next one back round a ring of n from j; j itself where there is no other
abbrev pub IsNearest : ℕ → List ℕ → ℕ → ℕ → Type 0
IsNearest n places j near = ((near ≡ j) × ((i : ℕ) → Contains places i → i ≡ j))
    ⊎ (Contains places near × (near ≢ j)
    × ((i : ℕ) → Contains places i → i ≢ j → i ≢ near → distance n near j < distance n i j))

-- that of each place
abbrev pub AreNearest : ℕ → List ℕ → List ℕ → Type 0
AreNearest n places nearest = (length nearest ≡ n)
    × ((j : ℕ) → j < n → IsNearest n places j (slice_index nearest j))
