-- Helpers, no definitions: eliminations told by the candidates left of each node. That they are the sound
-- steps of a section is proved.
use Rattle.std.specs.Prelude.{◌≡◌, ◌≢◌, ℕ, ◌+◌, ◌<◌, ◌≤◌, ◌⊎◌, ◌↔◌, List, Option, Some, Contains, length, slice_get}
use Rattle.std.specs.Prelude.{slice_index}
use Rattle.ira_event.specs.Log.{Log}
use Rattle.ira_pred.specs.Case.{Conjunct}
use Rattle.ira_order.specs.Ring.{log_of}
use Rattle.ira_order.specs.Before.{Before}
use Rattle.ira_order.specs.VectorClock.{IsCount}
use Rattle.ira_cert_text.specs.declared.cert_step.CertStep.{CertStep}
use Rattle.ira_cert.specs.Conjuncts.{HasDifferentPlaces}
use Rattle.ira_cert.specs.Queues.{AreQueues, HasList}
use Rattle.ira_elim.specs.PairSet.{Has}
use Rattle.ira_elim.specs.CandidateClock.{CandidateClock, IsCandidateClock, IsCounted}

-- they are the candidates of some case that asks each node for one thing at most
abbrev pub AreQueuesOfSomeCase : List Log → List (Option (List ℕ)) → Type 0
AreQueuesOfSomeCase logs queues = (case : List Conjunct) × HasDifferentPlaces case × AreQueues logs case queues

-- these are the places at which there is a list
abbrev pub ArePlaces : List (Option (List ℕ)) → List ℕ → Type 0
ArePlaces queues places = (i : ℕ) → Contains places i ↔ HasList queues i

-- p is the first candidate left of node i
abbrev pub IsFirstLeft : List (Option (List ℕ)) → ℕ → ℕ → Type 0
IsFirstLeft queues i p = (left : List ℕ) × (slice_get queues i ≡ Some (Some left)) × (slice_get left 0 ≡ Some p)

-- each node that has a list has a first candidate left
abbrev pub HasFirstLefts : List (Option (List ℕ)) → Type 0
HasFirstLefts queues = (i : ℕ) → HasList queues i → (p : ℕ) × IsFirstLeft queues i p

-- the first candidates left are states of the logs
abbrev pub AreWithin : List Log → List (Option (List ℕ)) → Type 0
AreWithin logs queues = (i p : ℕ) → IsFirstLeft queues i p → (i < length logs) × (p ≤ length (log_of logs i))

-- each node that has a first candidate left stands there
abbrev pub AreStands : List Log → List (Option (List ℕ)) → List CandidateClock → Type 0
AreStands logs queues stands = (j q : ℕ) → IsFirstLeft queues j q → (s : CandidateClock) × (slice_get stands j ≡ Some s)
    × IsCandidateClock logs j q s

-- the counts of each node that has a first candidate left are those at its position
abbrev pub AreCounted : List (Option (List ℕ)) → List CandidateClock → Type 0
AreCounted queues stands = (j q : ℕ) (s : CandidateClock) → IsFirstLeft queues j q → slice_get stands j ≡ Some s
    → IsCounted s

-- the step names the first candidates left of two different nodes, and the event that leads on from the one
-- state happened before the event that led to the other
pub record IsElimination (logs : List Log) (queues : List (Option (List ℕ))) (s : CertStep) : Type 0 where
  pub differ : s.node ≢ s.other
  pub front : IsFirstLeft queues s.node s.pos
  pub other_front : IsFirstLeft queues s.other s.other_pos
  pub happened_before : Before logs s.node (s.pos + 1) s.other s.other_pos

-- these pairs have the nodes of each elimination, the eliminated one first
abbrev pub HasEliminations : List Log → List (Option (List ℕ)) → List ℕ → Type 0
HasEliminations logs queues pairs = (s : CertStep) → IsElimination logs queues s → Has pairs s.node s.other

-- the greatest of the counts of node i at the events that led to the first candidates left, 0 where there are
-- none; where such an event is of node i itself, its number is no less
pub record IsGreatestCount (logs : List Log) (queues : List (Option (List ℕ))) (i c : ℕ) : Type 0 where
  pub upper : (j q : ℕ) → IsFirstLeft queues j q → (n : ℕ) × IsCount logs j q i n × (n ≤ c)
  pub reached : (c ≡ 0) ⊎ ((j : ℕ) × (q : ℕ) × IsFirstLeft queues j q × IsCount logs j q i c × (i ≡ j → c ≤ q))

-- the greatest counts of all nodes
pub record AreGreatestCounts (logs : List Log) (queues : List (Option (List ℕ))) (cut : List ℕ) : Type 0 where
  pub places : length cut ≡ length logs
  pub counts : (i : ℕ) → i < length logs → IsGreatestCount logs queues i (slice_index cut i)
