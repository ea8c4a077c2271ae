-- Laws of the states along events, for rings, states and events of any numbers.
use Rattle.std.specs.Prelude.{◌≡◌, ◌↔◌, ℕ, ◌≤◌, List, length, take, slice_get, Some}
use Rattle.ira_event.specs.declared.event.Event.{Event}
use Rattle.ira_event.specs.declared.event.Event.TheVariants.{Draw, Sent, Got, Yield}
use Rattle.ira_event.specs.Log.{Log}
use Rattle.ira_event.specs.Upgrade.{upgraded}
use Rattle.ira_node.specs.declared.node_state.NodeState.{NodeState}
use Rattle.ira_replay.specs.LocalRun.{LeadsTo, IsLocalRun}
use Rattle.ira_replay.specs.StatesOfLog.{AreStates, AreStatesOfLog}

-- events have one list of states
abbrev pub OneListOfStates : Type 0
OneListOfStates = (n : ℕ) (s : NodeState) (es : List Event) (ts us : List NodeState) → AreStates n s es ts
    → AreStates n s es us → ts ≡ us

-- state a is the one to which the first a events lead
abbrev pub StatesAreReached : Type 0
StatesAreReached = (n : ℕ) (s : NodeState) (es : List Event) (ts : List NodeState) → AreStates n s es ts
    → (a : ℕ) (t : NodeState) → (slice_get ts a ≡ Some t) ↔ ((a ≤ length es) × LeadsTo n s (take a es) t)

-- two draws, two receipts, two yields, or two sendings of one load
abbrev pub AreAlike : Event → Event → Type 0
AreAlike (Draw d) (Draw c) = Unit {0}
AreAlike (Sent m) (Sent k) = m ≡ k
AreAlike (Got m) (Got k) = Unit {0}
AreAlike Yield Yield = Unit {0}
AreAlike _ _ = ⊥

-- two local runs of one ring size and one start kind, which agree in their first events, go on alike: the
-- next event of the one and the next event of the other are two draws, two receipts, two yields, or two
-- sendings of one load
abbrev pub LocalRunsGoOnAlike : Type 0
LocalRunsGoOnAlike =
    (a b : Log) (k : ℕ) (e f : Event) → IsLocalRun a → IsLocalRun b → a.nodes ≡ b.nodes → a.initiator ≡ b.initiator
    → take k a.events ≡ take k b.events → slice_get a.events k ≡ Some e → slice_get b.events k ≡ Some f → AreAlike e f

-- an upgraded log has the states of the old one
abbrev pub UpgradesKeepStates : Type 0
UpgradesKeepStates = (log : Log) (states : List NodeState)
    → AreStatesOfLog (upgraded log) states ↔ AreStatesOfLog log states
