-- What a node sends and receives, by the numbers of its events.
use Rattle.std.specs.Prelude.{◌≡◌, ℕ, ◌+◌, ◌-◌, List, Some, length, slice_get, take}
use Rattle.ira_event.specs.declared.load.Load.{Load}
use Rattle.ira_event.specs.Log.{Log}
use Rattle.ira_node.specs.declared.node_state.NodeState.{NodeState}
use Rattle.ira_order.specs.Matching.{got, sent}
use Rattle.ira_view_evidence.specs.Exchange.{IsNthGot, IsNthSent}
use Rattle.ira_view_picture.specs.declared.traffic.Effect.{Effect}
use Rattle.ira_view_picture.specs.declared.traffic.Effect.TheVariants.{GoesOn, Leads, Nothing}
use Rattle.ira_view_picture.specs.declared.traffic.Receipt.{Receipt}
use Rattle.ira_view_trail.specs.StateTrail.{Reaches}

-- event p of the log, counted from 1, has a step, and the state after it is the one before it
abbrev pub ChangesNothing : Log → ℕ → Type 0
ChangesNothing log p = (s : NodeState) × Reaches log (p - 1) s × Reaches log p s

-- what the event does to its node
abbrev pub IsEffect : Log → ℕ → Effect → Type 0
IsEffect log p Nothing = ChangesNothing log p
IsEffect log p GoesOn = ¬ (ChangesNothing log p)
IsEffect log p Leads = ¬ (ChangesNothing log p)

-- the numbers of the events that send, and the receipts
pub record Traffic : Type 0 where
  pub sendings : List ℕ
  pub receipts : List Receipt

-- it has the sendings and receipts among the first n events, each in its place
pub record IsTraffic (log : Log) (n : ℕ) (t : Traffic) : Type 0 where
  pub sent_count : length t.sendings ≡ length (sent (take n log.events))
  pub sent_each : (k p : ℕ) → slice_get t.sendings k ≡ Some p → (x : Load) × IsNthSent log.events (k + 1) p x
  pub got_count : length t.receipts ≡ length (got (take n log.events))
  pub got_each : (k : ℕ) (r : Receipt) → slice_get t.receipts k ≡ Some r → (x : Load)
      × IsNthGot log.events (k + 1) r.position x
  pub effects : (k : ℕ) (r : Receipt) → slice_get t.receipts k ≡ Some r → IsEffect log r.position r.effect

-- that of each node of a ring
pub record AreTraffic (logs : List Log) (ts : List Traffic) : Type 0 where
  pub places : length ts ≡ length logs
  pub each : (i : ℕ) (t : Traffic) → slice_get ts i ≡ Some t → (log : Log) × (slice_get logs i ≡ Some log)
      × IsTraffic log (length log.events) t
