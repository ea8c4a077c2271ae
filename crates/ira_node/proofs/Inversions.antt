-- What an event that has a step says of the state before it.
use Rattle.std.proofs.Common.{◌≡◌, ℕ, ◌≤◌, Some, ◌∙◌, subst, ap}
use Rattle.ira_event.specs.declared.load.Load.{Load}
use Rattle.ira_event.specs.declared.event.Event.TheVariants.{Draw, Sent, Yield}
use Rattle.ira_node.specs.declared.phase.Phase.TheVariants.{Choosing}
use Rattle.ira_node.specs.declared.node_state.NodeState.{NodeState}
use Rattle.ira_node.specs.NodeState.{free, IsLeader}
use Rattle.ira_node.specs.NodeStep.{NodeStep, sends, draws, passes, gives_in, purges, meets, ties, wins, yields}
use Rattle.ira_node.specs.NodeStep.{restarts, comes_home}

-- a node that draws chooses, and draws an ID of the ring
pub drawing_chooses : (n : ℕ) (s t : NodeState) (x : ℕ) → NodeStep n s (Draw x) t → (term round : ℕ)
    × (s ≡ free term (Choosing round)) × (1 ≤ x) × (x ≤ n)
drawing_chooses n s t x (sends m runs o ee et) = cc
drawing_chooses n s t x (draws term round id es ee lo hi et) = let same : id ≡ x = cc in
    (term, round, es, subst (λ y. 1 ≤ y) same lo, subst (λ y. y ≤ n) same hi)
drawing_chooses n s t x (passes term m es ee h et) = cc
drawing_chooses n s t x (gives_in term round id m es ee g h et) = cc
drawing_chooses n s t x (purges term round id m es ee g et) = cc
drawing_chooses n s t x (meets term round id m es ee g h k et) = cc
drawing_chooses n s t x (ties term round id m es ee g h d k et) = cc
drawing_chooses n s t x (wins term round id m es ee g h d et) = cc
drawing_chooses n s t x (yields l ee low et) = cc
drawing_chooses n s t x (restarts term h es ee below low et) = cc
drawing_chooses n s t x (comes_home term es ee low et) = cc

-- a node that sends owes what it sends
pub sending_owes : (n : ℕ) (s t : NodeState) (k : Load) → NodeStep n s (Sent k) t → s.owed ≡ Some k
sending_owes n s t k (sends m runs o ee et) = let same : m ≡ k = cc in o ∙ ap Some same
sending_owes n s t k (draws term round id es ee lo hi et) = cc
sending_owes n s t k (passes term m es ee h et) = cc
sending_owes n s t k (gives_in term round id m es ee g h et) = cc
sending_owes n s t k (purges term round id m es ee g et) = cc
sending_owes n s t k (meets term round id m es ee g h j et) = cc
sending_owes n s t k (ties term round id m es ee g h d j et) = cc
sending_owes n s t k (wins term round id m es ee g h d et) = cc
sending_owes n s t k (yields l ee low et) = cc
sending_owes n s t k (restarts term h es ee below low et) = cc
sending_owes n s t k (comes_home term es ee low et) = cc

-- a node that yields leads
pub yielding_leads : (n : ℕ) (s t : NodeState) → NodeStep n s Yield t → IsLeader s.phase
yielding_leads n s t (sends m runs o ee et) = cc
yielding_leads n s t (draws term round id es ee lo hi et) = cc
yielding_leads n s t (passes term m es ee h et) = cc
yielding_leads n s t (gives_in term round id m es ee g h et) = cc
yielding_leads n s t (purges term round id m es ee g et) = cc
yielding_leads n s t (meets term round id m es ee g h j et) = cc
yielding_leads n s t (ties term round id m es ee g h d j et) = cc
yielding_leads n s t (wins term round id m es ee g h d et) = cc
yielding_leads n s t (yields l ee low et) = l
yielding_leads n s t (restarts term h es ee below low et) = cc
yielding_leads n s t (comes_home term es ee low et) = cc
