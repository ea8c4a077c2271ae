-- Who leads is decided by what the nodes draw.
use Rattle.std.specs.Prelude.{◌≡◌, ◌≢◌, ℕ, ◌+◌, ◌<◌, ◌≤◌, ◌⊎◌, true, List, Some, slice_get, slice_index}
use Rattle.std.specs.Prelude.{length, take}
use Rattle.ira_event.specs.declared.event.Event.TheVariants.{Draw}
use Rattle.ira_event.specs.Log.{Log}
use Rattle.ira_event.specs.Logs.{AreLogs}
use Rattle.ira_event.specs.Messages.{drawn}
use Rattle.ira_node.specs.declared.node_state.NodeState.{NodeState}
use Rattle.ira_node.specs.declared.phase.Phase.{Phase}
use Rattle.ira_node.specs.declared.phase.Phase.TheVariants.{Active, Choosing, Leader, Yielding}
use Rattle.ira_order.specs.Cut.{IsConsistentCut}
use Rattle.ira_order.specs.Matching.{Matches}
use Rattle.ira_order.specs.Ring.{log_of, numbered}
use Rattle.ira_order.specs.Run.{AreLocalRuns, is_initiator}
use Rattle.ira_safety.specs.OneLeader.{IsIn, Leads}
use Rattle.ira_safety.specs.TwoNodes.{both_elected}

-- node i draws this ID in a round of a term: after its first events it chooses in that round, and the next one is the
-- draw
pub record Drew (logs : List Log) (i term round id : ℕ) : Type 0 where
  pub events : ℕ
  pub state : NodeState
  pub is_in : IsIn logs i events state
  pub term_is : state.term ≡ term
  pub chooses : state.phase ≡ Choosing round
  pub draws : slice_get (log_of logs i) events ≡ Some (Draw id)

-- in a round of a term a node draws one ID
abbrev pub OneDrawInARound : Type 0
OneDrawInARound =
    (logs : List Log) → AreLogs logs → Matches logs → AreLocalRuns logs
    → (i term round id other : ℕ) → Drew logs i term round id → Drew logs i term round other → id ≡ other

-- who draws in a later round than the first drew in the one before; nobody drew a greater ID there, and another node the
-- same
abbrev pub TheGreatestGoOn : Type 0
TheGreatestGoOn =
    (logs : List Log) → AreLogs logs → Matches logs → AreLocalRuns logs
    → (i term round id : ℕ) → 1 ≤ round → Drew logs i term (round + 1) id
    → (before : ℕ) × Drew logs i term round before × ((j other : ℕ) → Drew logs j term round other → other ≤ before)
    × ((k : ℕ) × (k ≢ i) × Drew logs k term round before)

-- who leads drew an ID in its round, and each other node that drew there drew a lesser one
abbrev pub TheGreatestLeads : Type 0
TheGreatestLeads =
    (logs : List Log) → AreLogs logs → Matches logs → AreLocalRuns logs
    → (i events round id : ℕ) (state : NodeState) → IsIn logs i events state → state.phase ≡ Leader round id
    → Drew logs i state.term round id × ((j other : ℕ) → j ≢ i → Drew logs j state.term round other → other < id)

-- once a node chooses in a later round than the first, at a consistent cut, each other one has come to its term, and
-- chooses there in no round before
abbrev pub NobodyDrawsLate : Type 0
NobodyDrawsLate =
    (logs : List Log) (cut : List ℕ) → AreLogs logs → Matches logs → AreLocalRuns logs → IsConsistentCut logs cut
    → (i j round other : ℕ) (a b : NodeState) → 1 ≤ round → IsIn logs i (slice_index cut i) a
    → IsIn logs j (slice_index cut j) b → a.phase ≡ Choosing (round + 1)
    → (a.term ≤ b.term) × (b.term ≡ a.term → b.phase ≡ Choosing other → round < other)

-- within a cut node i drew this ID in a round of a term
pub record DrewWithin (logs : List Log) (cut : List ℕ) (i term round id : ℕ) : Type 0 where
  pub drew : Drew logs i term round id
  pub within : drew.events < slice_index cut i

-- who drew an ID in a round is still in it: it is active with the ID, leads with it, chooses in the next round, or drew there
pub data IsStillIn (logs : List Log) (cut : List ℕ) (i term round id : ℕ) (phase : Phase) : Type 0 where
  still_active : phase ≡ Active round id → IsStillIn logs cut i term round id phase
  still_leads : phase ≡ Leader round id → IsStillIn logs cut i term round id phase
  still_chooses : phase ≡ Choosing (round + 1) → IsStillIn logs cut i term round id phase
  drew_next : (next : ℕ) → DrewWithin logs cut i term (round + 1) next → IsStillIn logs cut i term round id phase

-- at a cut the term is past: some node is in a later one, or yields in it
pub record IsTermPast (logs : List Log) (cut : List ℕ) (term : ℕ) : Type 0 where
  pub j : ℕ
  pub state : NodeState
  pub is_in : IsIn logs j (slice_index cut j) state
  pub past : (term < state.term) ⊎ ((state.term ≡ term) × (state.phase ≡ Yielding))

-- at a consistent cut each node that drew the greatest ID of a round so far is still in it, unless the term is past
abbrev pub TheGreatestAreStillIn : Type 0
TheGreatestAreStillIn =
    (logs : List Log) (cut : List ℕ) → AreLogs logs → Matches logs → AreLocalRuns logs → IsConsistentCut logs cut
    → (i term round id : ℕ) (state : NodeState) → DrewWithin logs cut i term round id
    → ((j other : ℕ) → DrewWithin logs cut j term round other → other ≤ id)
    → IsIn logs i (slice_index cut i) state
    → IsTermPast logs cut term ⊎ ((state.term ≡ term) × IsStillIn logs cut i term round id state.phase)

-- in the first term the rounds' draws of a node are its draws in their order
abbrev pub FirstTermInOrder : Type 0
FirstTermInOrder =
    (logs : List Log) → AreLogs logs → Matches logs → AreLocalRuns logs
    → (j round id : ℕ) → Drew logs j 1 round id → numbered (drawn (log_of logs j)) round ≡ Some id

-- node j begins to choose in the term: an initiator in the first one, and each node in a later one
abbrev pub Starts : List Log → ℕ → ℕ → Type 0
Starts logs term j = (j < length logs) × ((1 < term) ⊎ (is_initiator (slice_get logs j) ≡ true))

-- rounds are counted from 1
abbrev pub RoundsCountFromOne : Type 0
RoundsCountFromOne =
    (logs : List Log) → AreLogs logs → Matches logs → AreLocalRuns logs
    → (j term round id : ℕ) → Drew logs j term round id → 1 ≤ round

-- who draws in a term begins to choose in it
abbrev pub OnlyWhoStartDraw : Type 0
OnlyWhoStartDraw =
    (logs : List Log) → AreLogs logs → Matches logs → AreLocalRuns logs
    → (j term round id : ℕ) → Drew logs j term round id → Starts logs term j

-- and where a node leads, all who do have drawn in the first round
abbrev pub AllWhoStartDraw : Type 0
AllWhoStartDraw =
    (logs : List Log) → AreLogs logs → Matches logs → AreLocalRuns logs
    → (i events last id : ℕ) (state : NodeState) → IsIn logs i events state → state.phase ≡ Leader last id
    → (j : ℕ) → Starts logs state.term j → (first : ℕ) × Drew logs j state.term 1 first

-- where a node leads, each one that drew the greatest ID of a round before that of the leader has drawn in the next one
abbrev pub AllTheGreatestGoOn : Type 0
AllTheGreatestGoOn =
    (logs : List Log) → AreLogs logs → Matches logs → AreLocalRuns logs
    → (i events last id : ℕ) (state : NodeState) → IsIn logs i events state → state.phase ≡ Leader last id
    → (j round most : ℕ) → round < last → Drew logs j state.term round most
    → ((k other : ℕ) → Drew logs k state.term round other → other ≤ most)
    → (next : ℕ) × Drew logs j state.term (round + 1) next

-- the same nodes begin to choose in a term of these logs and in a term of those
abbrev pub StartAlike : List Log → List Log → ℕ → ℕ → Type 0
StartAlike ls ms s t = (j : ℕ) → (Starts ls s j → Starts ms t j) × (Starts ms t j → Starts ls s j)

-- and where a node draws in a round of both, it draws the same ID
abbrev pub DrawAlike : List Log → List Log → ℕ → ℕ → Type 0
DrawAlike ls ms s t = (j round x y : ℕ) → Drew ls j s round x → Drew ms j t round y → x ≡ y

-- a term has one leader, in one round and with one ID, in whatever order messages came: they are the same in all logs
-- of which the same nodes begin and draw the same
abbrev pub DrawsDecide : Type 0
DrawsDecide =
    (ls ms : List Log) → AreLogs ls → Matches ls → AreLocalRuns ls → AreLogs ms → Matches ms → AreLocalRuns ms
    → (i a x d k b y e : ℕ) (state other : NodeState) → IsIn ls i a state → state.phase ≡ Leader x d
    → IsIn ms k b other → other.phase ≡ Leader y e → StartAlike ls ms state.term other.term
    → DrawAlike ls ms state.term other.term → (i ≡ k) × (x ≡ y) × (d ≡ e)

-- of logs that don't match two nodes may lead with the same draw
abbrev pub BothMayLeadUnmatched : Type 0
BothMayLeadUnmatched =
    AreLogs both_elected × AreLocalRuns both_elected × Leads both_elected 0 3 × Leads both_elected 1 3
    × Drew both_elected 0 1 1 1 × Drew both_elected 1 1 1 1

-- node i begins to choose in the term, and nobody drew more in a round of it in which node i drew
pub record IsContender (logs : List Log) (cut : List ℕ) (term i : ℕ) : Type 0 where
  pub starts : Starts logs term i
  pub not_outdrawn :
      (j round id other : ℕ) → DrewWithin logs cut i term round id → DrewWithin logs cut j term round other
      → other ≤ id

-- the logs go on from the cut of those
pub record GoesOn (logs : List Log) (cut : List ℕ) (more : List Log) : Type 0 where
  pub nodes : length more ≡ length logs
  pub start : (i : ℕ) → is_initiator (slice_get more i) ≡ is_initiator (slice_get logs i)
  pub events : (i : ℕ) → take (slice_index cut i) (log_of more i) ≡ take (slice_index cut i) (log_of logs i)

-- however logs go on from a cut: who leads then in a term is one of its contenders
abbrev pub OnlyContendersLead : Type 0
OnlyContendersLead =
    (logs more : List Log) (cut : List ℕ) → AreLogs logs → GoesOn logs cut more → AreLogs more → Matches more
    → AreLocalRuns more
    → (i events round id : ℕ) (state : NodeState) → IsIn more i events state → state.phase ≡ Leader round id
    → IsContender logs cut state.term i
