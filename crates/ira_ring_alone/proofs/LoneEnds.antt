-- A node that has ended can't step.
use Rattle.std.proofs.Common.{◌≡◌, ℕ, ◌+◌, ◌++◌, ◌<◌, inl, inr, List, [], ◌∷◌, None, length, get_or, refl, sym, subst}
use Rattle.std.proofs.Common.{ap, length-append, arith}
use Rattle.std.proofs.lemmas.Bool.{cases_lt}
use Rattle.std.proofs.lemmas.Option.{get_or_from_slice_get, slice_get_within}
use Rattle.ira_event.specs.declared.event.Event.{Event}
use Rattle.ira_event.specs.declared.event.Event.TheVariants.{Got}
use Rattle.ira_event.specs.declared.load.Load.{Load}
use Rattle.ira_node.specs.declared.phase.Phase.TheVariants.{Choosing}
use Rattle.ira_node.specs.declared.node_state.NodeState.{NodeState}
use Rattle.ira_node.specs.NodeState.{free, IsLeader, Receives}
use Rattle.ira_node.specs.NodeStep.{HasStep}
use Rattle.ira_node.specs.Wanted.{wanted_of}
use Rattle.ira_node.specs.declared.wanted.Wanted.TheVariants.{Draw as WantsDraw, Send, Receipt}
use Rattle.ira_node.proofs.Wants.{wants_draw, wants_receipt, wants_send, receiving_leads_not, owing_leads_not}
use Rattle.ira_ring_setup.specs.declared.node_end.NodeEnd.{NodeEnd}
use Rattle.ira_ring_setup.specs.declared.node_end.NodeEnd.TheVariants.{Leader, Stopped, DrawsSpent, LogFull, NoStep, Quiet}
use Rattle.ira_ring_setup.specs.Setup.{Setup, node_draws}
use Rattle.ira_ring_setup.specs.Terms.{IsLastLeader}
use Rattle.ira_event.specs.Messages.{drawn}
use Rattle.ira_ring_setup.specs.FullRun.{events_at, HasEvent, yields, owes, chooses, receives, CanStep}
use Rattle.ira_ring_alone.specs.LoneNode.{LoneNode, Ends, HasNoNext}
use Rattle.ira_ring_alone.specs.LoneRing.{node_at, IsReached, AreAtEnd, AreEndsOfNodes}
use Rattle.ira_ring_setup.proofs.Choosing.{choosing_no_receipt, choosing_no_waiting, choosing_no_leader, leader_no_waiting}
use Rattle.ira_ring_alone.proofs.LoneNodes.{choosing_leads_not, first_load, parts}
use Rattle.ira_ring_alone.proofs.LoneStarts.{each_more}
use Rattle.ira_ring_alone.proofs.LoneTurns.{read_at}

pub ended_no_event : (n most terms : ℕ) (ids : List ℕ) (node : LoneNode) (end : NodeEnd)
    → ids ≡ drawn node.events ++ node.ids → Ends n most terms node end
    → ¬ (IsLastLeader terms node.state) → length node.events < most
    → HasEvent n terms ids node.state node.events node.input → ⊥
ended_no_event n most terms ids node Leader left h not_last below_cap event = not_last h
ended_no_event n most terms ids node Stopped left h not_last below_cap event = h
ended_no_event n most terms ids node LogFull left h not_last below_cap event = omega (arith, h.1)
ended_no_event n most terms ids node DrawsSpent left h not_last below_cap (yields leads below) =
    choosing_no_leader h.1.0 h.1.1 node.state h.1.2 leads
ended_no_event n most terms ids node DrawsSpent left h not_last below_cap (owes m o) = let is = h.1.2 in cc
ended_no_event n most terms ids node DrawsSpent left h not_last below_cap (chooses term round is unused) =
    omega (arith, ap length left, length-append (drawn node.events) node.ids, ap length h.2)
ended_no_event n most terms ids node DrawsSpent left h not_last below_cap (receives m others is step) =
    choosing_no_receipt n h.1.0 h.1.1 node.state m h.1.2 step
ended_no_event n most terms ids node (NoStep k) left h not_last below_cap (yields leads below) =
    leader_no_waiting node.state.phase leads h.2
ended_no_event n most terms ids node (NoStep k) left h not_last below_cap (owes m o) = let is = h.1 in cc
ended_no_event n most terms ids node (NoStep k) left h not_last below_cap (chooses term round is unused) =
    choosing_no_waiting term round node.state is h.2
ended_no_event n most terms ids node (NoStep k) left h not_last below_cap (receives m others is step) =
    let first = h.3.1 in
    let same : m ≡ k = cc in
    let P : Load → Type 0 = λ x. HasStep n node.state (Got x) in
    h.4 (subst P same step)
ended_no_event n most terms ids node Quiet left h not_last below_cap (yields leads below) =
    leader_no_waiting node.state.phase leads h.2
ended_no_event n most terms ids node Quiet left h not_last below_cap (owes m o) = let is = h.1 in cc
ended_no_event n most terms ids node Quiet left h not_last below_cap (chooses term round is unused) =
    choosing_no_waiting term round node.state is h.2
ended_no_event n most terms ids node Quiet left h not_last below_cap (receives m others is step) = let none = h.3 in cc

-- so it can't step
pub ended_no_step : (s : Setup) (nodes : List LoneNode) (reached : IsReached s nodes) (i : ℕ) → i < s.nodes
    → HasNoNext s.nodes s.cap s.terms (node_at nodes i) → ¬ (CanStep s reached.run reached.point i)
ended_no_step s nodes reached i l ended can =
    let node : LoneNode = node_at nodes i in
    let P : NodeState → Type 0 = λ x. ¬ (IsLastLeader s.terms x) in
    let Q : NodeState → Type 0 =
    λ x. HasEvent s.nodes s.terms (node_draws s i) x (node_at nodes i).events (node_at nodes i).input in
    let R : List Event → Type 0 =
    λ x. HasEvent s.nodes s.terms (node_draws s i) (reached.point.state i) x (node_at nodes i).input in
    let S : List Load → Type 0 =
    λ x. HasEvent s.nodes s.terms (node_draws s i) (reached.point.state i) (events_at reached.run i) x in
    ended_no_event s.nodes s.cap s.terms (node_draws s i) (node_at nodes i) ended.0 (reached.draws i l) ended.1
    (subst P (reached.states i l) can.not_last)
    (omega (arith, can.below_cap, ap length (reached.events i l)))
    (subst Q (reached.states i l) (subst R (reached.events i l) (subst S (reached.links i l) can.event)))

-- ---- the ends, as the code finds them

spent_ids : (n most terms term round : ℕ) (node : LoneNode) (end : NodeEnd) (ids : List ℕ) → node.ids ≡ ids
    → Ends n most terms node end → node.state ≡ free term (Choosing round) → length node.events < most → ids ≡ []
spent_ids n most terms term round node end [] is ends choosing below_cap = refl
spent_ids n most terms term round node end (id ∷ ids) is ends choosing below_cap =
    absurd (ended_no_event n most terms (drawn node.events ++ node.ids) node end refl ends (λ l.
    choosing_leads_not node.state term round choosing l.0) below_cap
    (chooses term round choosing (omega (arith, length-append (drawn node.events) node.ids, ap length is))))

pub ends_spent : (n most terms : ℕ) (state : NodeState) (ids : List ℕ) (input : List Load) (events : List Event)
    (node : LoneNode) → parts state ids input events ≡ node → WantsDraw ≡ wanted_of state.term state.phase state.owed
    → length events < most
    → HasNoNext n most terms node → Ends n most terms node DrawsSpent
ends_spent n most terms state ids input events node is wants below_cap =
    let P : LoneNode → Type 0 = λ x. HasNoNext n most terms x → Ends n most terms x DrawsSpent in
    let w : (round : ℕ) × (state ≡ free state.term (Choosing round)) =
    wants_draw state.term state.phase state.owed wants in
    subst P is (λ ended. (
      below_cap,
      (state.term, w.0, w.1),
      spent_ids n most terms state.term w.0 (parts state ids input events) ended.0 ids refl ended.1 w.1 below_cap,
    ))

pub ends_waiting : (n most terms : ℕ) (state : NodeState) (ids : List ℕ) (input : List Load) (events : List Event)
    (node : LoneNode) (m : Load) → parts state ids input events ≡ node
    → Receipt ≡ wanted_of state.term state.phase state.owed → length events < most
    → 0 < length input → m ≡ get_or input 0 m → HasNoNext n most terms node → Ends n most terms node (NoStep m)
ends_waiting n most terms state ids input events node m is wants below_cap some first =
    let P : LoneNode → Type 0 = λ x. HasNoNext n most terms x → Ends n most terms x (NoStep m) in
    let w : (state.owed ≡ None) × Receives state.phase = wants_receipt state.term state.phase state.owed wants in
    let f : (rest : List Load) × (input ≡ m ∷ rest) = first_load input m some first in
    subst P is (λ ended. (
      below_cap,
      w.0,
      w.1,
      f,
      λ step. ended_no_event n most terms (drawn events
          ++ ids) (parts state ids input events) ended.0 refl ended.1 (λ l.
          receiving_leads_not state.phase w.1 l.0) below_cap (receives m f.0 f.1 step),
    ))

pub owing_goes_on : (n most terms : ℕ) (state : NodeState) (ids : List ℕ) (input : List Load) (events : List Event)
    (node : LoneNode) (m : Load) → parts state ids input events ≡ node
    → Send m ≡ wanted_of state.term state.phase state.owed → length events < most
    → HasNoNext n most terms node → ⊥
owing_goes_on n most terms state ids input events node m is wants below_cap =
    let P : LoneNode → Type 0 = λ x. HasNoNext n most terms x → ⊥ in
    subst P is (λ ended. ended_no_event n most terms (drawn events
    ++ ids) (parts state ids input events) ended.0 refl ended.1 (λ l.
    owing_leads_not state.term state.phase state.owed m wants l.0) below_cap
    (owes m (wants_send state.term state.phase state.owed m wants)))

pub ended_at : (s : Setup) (nodes : List LoneNode) (i most terms : ℕ) (node : LoneNode) → AreAtEnd s nodes
    → i < length nodes → most ≡ s.cap → terms ≡ s.terms → node ≡ get_or nodes i node → HasNoNext s.nodes most terms node
ended_at s nodes i most terms node done l below_cap last read =
    let P : ℕ → ℕ → Type 0 = λ x y. HasNoNext s.nodes x y node in
    subst (λ (y : ℕ). P most y) (sym last)
    (subst (λ (x : ℕ). P x s.terms) (sym below_cap)
    (subst (HasNoNext s.nodes s.cap s.terms) (sym (read_at nodes i i node l refl read))
    (done.1 i (omega (arith, done.0.many)))))

pub ends_more : (s : Setup) (nodes : List LoneNode) (i most terms : ℕ) (node : LoneNode) (ends : List NodeEnd)
    (end : NodeEnd) → AreAtEnd s nodes → i < length nodes → most ≡ s.cap → terms ≡ s.terms → node ≡ get_or nodes i node
    → (HasNoNext s.nodes most terms node → Ends s.nodes most terms node end) → length ends ≡ i
    → ((j : ℕ) → j < i → Ends s.nodes s.cap s.terms (node_at nodes j) (get_or ends j Quiet))
    → (j : ℕ) → j < i + 1 → Ends s.nodes s.cap s.terms (node_at nodes j) (get_or (ends ++ end ∷ []) j Quiet)
ends_more s nodes i most terms node ends end done l below_cap last read so many each =
    let P : ℕ → ℕ → Type 0 = λ x y. Ends s.nodes x y node end in
    let Q : LoneNode → Type 0 = λ x. Ends s.nodes s.cap s.terms x end in
    each_more (λ j x. Ends s.nodes s.cap s.terms (node_at nodes j) x) Quiet ends end i many each
    (subst Q (read_at nodes i i node l refl read)
    (subst (λ (y : ℕ). P s.cap y) last
    (subst (λ (x : ℕ). P x terms) below_cap (so (ended_at s nodes i most terms node done l below_cap last read)))))

pub all_ends : (s : Setup) (nodes : List LoneNode) (ends : List NodeEnd) → length ends ≡ length nodes
    → ((j : ℕ) → j < length nodes → Ends s.nodes s.cap s.terms (node_at nodes j) (get_or ends j Quiet))
    → AreEndsOfNodes s nodes ends
all_ends s nodes ends many each = (
  many,
  λ i end at.
      let P : NodeEnd → Type 0 = λ x. Ends s.nodes s.cap s.terms (node_at nodes i) x in
      subst P (get_or_from_slice_get ends i end Quiet at) (each i (omega (arith, slice_get_within ends i end at))),
)

-- a leader in a term before the last goes on
pub leading_goes_on : (n most terms : ℕ) (state : NodeState) (ids : List ℕ) (input : List Load) (events : List Event)
    (node : LoneNode) → parts state ids input events ≡ node → IsLeader state.phase → ¬ (IsLastLeader terms state)
    → length events < most
    → HasNoNext n most terms node → ⊥
leading_goes_on n most terms state ids input events node is leads not_last below_cap =
    let P : LoneNode → Type 0 = λ x. HasNoNext n most terms x → ⊥ in
    subst P is (λ ended. elim (cases_lt state.term terms) [
      | inl below ↦ ended_no_event n most terms (drawn events
          ++ ids) (parts state ids input events) ended.0 refl ended.1 not_last below_cap (yields leads below)
      | inr past ↦ not_last (leads, omega arith)
    ])
