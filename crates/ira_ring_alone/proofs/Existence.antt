-- A setup that keeps the rules has a full run: as long as some node has a next event it is made, and there is
-- less room for events each time.
use Rattle.std.proofs.Common.{◌≡◌, ◌≢◌, ℕ, zero, suc, ◌+◌, ◌<◌, ◌≤◌, ◌⊎◌, inl, inr, All, List, [], ◌∷◌, length, get_or}
use Rattle.std.proofs.Common.{refl, sym, ◌∙◌, subst, ap, arith}
use Rattle.std.specs.Prelude.{map}
use Rattle.std.specs.List.{range_with_len}
use Rattle.std.proofs.Math.ListN.{set}
use Rattle.std.proofs.lemmas.List.{get_or-set_same, get_or-set_other, length-set}
use Rattle.std.proofs.lemmas.List.FromFn.{length-map-range_with_len, get_or-map-range_with_len}
use Rattle.ira_event.specs.declared.load.Load.{Load}
use Rattle.ira_event.specs.declared.event.Event.{Event}
use Rattle.ira_event.specs.declared.event.Event.TheVariants.{Draw, Sent, Got, Yield}
use Rattle.ira_event.specs.Limits.{MAX_NUMBER}
use Rattle.ira_event.specs.Log.{Log}
use Rattle.ira_node.specs.declared.node_state.NodeState.{NodeState}
use Rattle.ira_node.specs.declared.wanted.Wanted.{Wanted}
use Rattle.ira_node.specs.declared.wanted.Wanted.TheVariants.{Draw as WantsDraw, Send, Receipt, Yield as WantsYield}
use Rattle.ira_node.specs.declared.wanted.Wanted.TheVariants.{Nothing}
use Rattle.ira_node.specs.NodeStep.{HasStep}
use Rattle.ira_node.specs.NodeStepFault.{NodeStepFault}
use Rattle.ira_node.specs.Wanted.{CanCome, wanted_of}
use Rattle.ira_node.proofs.Answers.{a_step_or_a_fault, step_gives, fault_gives}
use Rattle.ira_node.proofs.Wants.{can_come}
use Rattle.ira_order.specs.Ring.{next}
use Rattle.ira_order.proofs.Ranks.{next_below}
use Rattle.std.proofs.lemmas.Bool.{cases_eq, cases_lt}
use Rattle.ira_ring_setup.specs.Setup.{Setup, KeepsRules}
use Rattle.ira_ring_setup.specs.FullRun.{AreFullLogs}
use Rattle.ira_ring_setup.proofs.FullRuns.{no_log}
use Rattle.ira_ring_alone.specs.LoneNode.{LoneNode, IsNext, HasNoNext, after_event, after_put}
use Rattle.ira_ring_alone.specs.LoneRing.{idle, node_at, IsMoved, IsReached, AreAtEnd}
use Rattle.ira_ring_alone.proofs.LoneLogs.{log_at, all_logs}
use Rattle.ira_ring_alone.proofs.LoneNodes.{wants_nothing, wants_yield, ends_nothing, leads_last, next_yield, next_draw}
use Rattle.ira_ring_alone.proofs.LoneNodes.{next_got, next_sent, spent, no_step, quiet, full_ends}
use Rattle.ira_ring_alone.proofs.LoneRuns.{full_logs}
use Rattle.ira_ring_alone.proofs.LoneStarts.{first_node, started}
use Rattle.ira_ring_alone.proofs.LoneSteps.{turn_reaches}
use Rattle.ira_ring_alone.proofs.LoneTurns.{next_not, ids_of}
use Rattle.ira_ring_alone.proofs.LoneTurnsOn.{room_in, less_room}

-- ---- a node has a next event or none

-- a next event of the node
abbrev HasNext : ℕ → ℕ → ℕ → LoneNode → Type 0
HasNext n most terms node = (e : Event) × (after : NodeState) × IsNext n most terms node e after

no_step_where_fault : (n : ℕ) (s : NodeState) (e : Event) → ((f : _) × NodeStepFault n s e f) → ¬ (HasStep n s e)
no_step_where_fault n s e fault step =
    let bad = fault_gives n s e fault.0 fault.1 in
    let good = step_gives n s e step.0 step.1 in
    cc

module _ (n most terms : ℕ) (node : LoneNode) (below_cap : length node.events < most) (few : terms ≤ MAX_NUMBER) where
  drawing : (ids : List ℕ) → node.ids ≡ ids → All (λ d. (1 ≤ d) × (d ≤ n)) ids
      → WantsDraw ≡ wanted_of node.state.term node.state.phase node.state.owed → CanCome n node.state WantsDraw
      → HasNext n most terms node ⊎ HasNoNext n most terms node
  drawing [] is all wants can = inr (spent n most terms node wants below_cap (ap length is))
  drawing (id ∷ rest) is all wants can =
      let within : (1 ≤ id) × (id ≤ n) = all 0 0 (omega arith) in
      let step : HasStep n node.state (Draw id) = can id within.0 within.1 in
      inl (Draw id, step.0, next_draw n most terms node id rest step.0 wants below_cap is step.1)

  receiving : (input : List Load) → node.input ≡ input
      → Receipt ≡ wanted_of node.state.term node.state.phase node.state.owed → HasNext n most terms node
      ⊎ HasNoNext n most terms node
  receiving [] is wants = inr (quiet n most terms node wants below_cap (λ some. omega (arith, some, ap length is)))
  receiving (m ∷ rest) is wants =
      let some : 0 < length node.input = omega (arith, ap length is) in
      let first : m ≡ get_or node.input 0 m = sym (ap (λ (ms : List Load). get_or ms 0 m) is) in
      elim (a_step_or_a_fault n node.state (Got m)) [
        | inl step ↦ inl (Got m, step.0, next_got n most terms node m step.0 wants below_cap some first step.1)
        | inr fault ↦ inr (no_step n most terms node m wants below_cap some first
            (no_step_where_fault n node.state (Got m) fault))
      ]

  by_want : (w : Wanted) → w ≡ wanted_of node.state.term node.state.phase node.state.owed
      → All (λ d. (1 ≤ d) × (d ≤ n)) node.ids → CanCome n node.state w → HasNext n most terms node
      ⊎ HasNoNext n most terms node
  by_want Nothing wants all can =
      inr (leads_last n most terms node (wants_nothing node.state.term node.state.phase node.state.owed wants)
      (omega (arith, few, ends_nothing node.state.term node.state.phase node.state.owed wants)))
  by_want WantsYield wants all can = elim (cases_lt node.state.term terms) [
    | inl below ↦ inl (Yield, can.0, next_yield n most terms node can.0 below below_cap can.1)
    | inr past ↦ inr (leads_last n most terms node (wants_yield node.state.term node.state.phase node.state.owed wants)
        (omega arith))
  ]
  by_want WantsDraw wants all can = drawing node.ids refl all wants can
  by_want (Send m) wants all can = inl (Sent m, can.0, next_sent n most terms node m can.0 wants below_cap can.1)
  by_want Receipt wants all can = receiving node.input refl wants

next_or_none : (s : Setup) (node : LoneNode) → KeepsRules s → All (λ d. (1 ≤ d) × (d ≤ s.nodes)) node.ids
    → HasNext s.nodes s.cap s.terms node ⊎ HasNoNext s.nodes s.cap s.terms node
next_or_none s node rules all = elim (cases_lt (length node.events) s.cap) [
  | inl below_cap ↦
      let w : Wanted = wanted_of node.state.term node.state.phase node.state.owed in
      by_want s.nodes s.cap s.terms node below_cap rules.terms.1 w refl all
      (can_come s.nodes node.state w refl rules.size)
  | inr full ↦ inr (full_ends s.nodes s.cap s.terms node full)
]

-- ---- the nodes after an event

module _ (n i : ℕ) (after : NodeState) (old : List LoneNode) (two : 2 ≤ n) (here : i < n) (many : length old ≡ n) where
  with_event : Event → List LoneNode
  with_event e = set old i (after_event (node_at old i) e after)

  at_event : (e : Event) → node_at (with_event e) i ≡ after_event (node_at old i) e after
  unfolding with_event
  at_event e = get_or-set_same old i (after_event (node_at old i) e after) idle (omega arith)

  by_event : (e : Event) (j : ℕ) → j ≢ i → node_at (with_event e) j ≡ node_at old j
  unfolding with_event
  by_event e j ne = get_or-set_other old i j (after_event (node_at old i) e after) idle ne

  many_with : (e : Event) → length (with_event e) ≡ n
  unfolding with_event
  many_with e = length-set old i (after_event (node_at old i) e after) ∙ many

  moves : (e : Event) → (new : List LoneNode) × (length new ≡ length old) × IsMoved n i e after old new
  moves (Draw id) = (with_event (Draw id), many_with (Draw id) ∙ sym many, (at_event (Draw id), by_event (Draw id)))
  moves (Got m) = (with_event (Got m), many_with (Got m) ∙ sym many, (at_event (Got m), by_event (Got m)))
  moves Yield = (with_event Yield, many_with Yield ∙ sym many, (at_event Yield, by_event Yield))
  moves (Sent m) =
      let mid : List LoneNode = with_event (Sent m) in
      let put : LoneNode = after_put (node_at old (next n i)) m in
      let below : next n i < n = next_below n i here in
      let apart : i ≢ next n i = λ e. next_not n i two here (sym e) in (
        set mid (next n i) put,
        length-set mid (next n i) put ∙ many_with (Sent m) ∙ sym many,
        (
          get_or-set_other mid (next n i) i put idle apart ∙ at_event (Sent m),
          get_or-set_same mid (next n i) put idle (omega (arith, many_with (Sent m))),
          λ j ne other. get_or-set_other mid (next n i) j put idle other ∙ by_event (Sent m) j ne,
        ),
      )

-- ---- event after event

module _ (s : Setup) (rules : KeepsRules s) where
  -- some node of the first ones has a next event, or none of them has one
  some_next : (nodes : List LoneNode) → IsReached s nodes → (k : ℕ) → k ≤ s.nodes
      → ((i : ℕ) × (i < s.nodes) × HasNext s.nodes s.cap s.terms (node_at nodes i))
      ⊎ ((i : ℕ) → i < k → HasNoNext s.nodes s.cap s.terms (node_at nodes i))
  some_next nodes reached zero within = inr (λ i l. absurd (omega (arith, l)))
  some_next nodes reached (suc k) within = elim (some_next nodes reached k (omega arith)) [
    | inl found ↦ inl found
    | inr none ↦ elim (next_or_none s (node_at nodes k) rules (ids_of s nodes k rules reached (omega arith))) [
      | inl found ↦ inl (k, omega arith, found)
      | inr ended ↦ inr (λ i l. elim (cases_eq i k) [
        | inl e ↦ subst (λ (x : ℕ). HasNoNext s.nodes s.cap s.terms (node_at nodes x)) (sym e) ended
        | inr ne ↦ none i (omega (arith, l))
      ])
    ]
  ]

  goes_to_end : (k : ℕ) (nodes : List LoneNode) → IsReached s nodes → room_in s.cap nodes < k → (last : List LoneNode)
      × AreAtEnd s last
  goes_to_end zero nodes reached below_cap = absurd (omega arith)
  goes_to_end (suc k) nodes reached below_cap = elim (some_next nodes reached s.nodes (omega arith)) [
    | inr none ↦ (nodes, (reached, none))
    | inl found ↦
        let i : ℕ = found.0 in
        let e : Event = found.2.0 in
        let after : NodeState = found.2.1 in
        let is_next : IsNext s.nodes s.cap s.terms (node_at nodes i) e after = found.2.2 in
        let new = moves s.nodes i after nodes rules.size.0 found.1 reached.many e in
        let less : room_in s.cap new.0 < room_in s.cap nodes =
        less_room s.nodes s.cap s.terms i e after nodes new.0 (omega (arith, found.1, reached.many)) new.1 is_next
        new.2 in
        goes_to_end k new.0 (turn_reaches s nodes new.0 i e after rules.size.0 found.1 reached is_next new.2 new.1)
        (omega (arith, less))
  ]

-- ---- a full run

first_nodes : Setup → List LoneNode
first_nodes s = map (first_node s) (range_with_len 0 s.nodes)

first_reached : (s : Setup) → IsReached s (first_nodes s)
unfolding first_nodes
first_reached s = started s (map (first_node s) (range_with_len 0 s.nodes))
    (length-map-range_with_len (first_node s) 0 s.nodes)
    (λ i l. get_or-map-range_with_len (first_node s) 0 s.nodes i i idle l (omega arith))

pub full_run_exists : (s : Setup) → KeepsRules s → (logs : List Log) × AreFullLogs s logs
full_run_exists s rules =
    let last = goes_to_end s rules (room_in s.cap (first_nodes s) + 1) (first_nodes s) (first_reached s) (omega arith)
    in
    let logs : List Log = map (log_at s last.0) (range_with_len 0 s.nodes) in
    let many : length logs ≡ length last.0 =
    length-map-range_with_len (log_at s last.0) 0 s.nodes ∙ sym last.1.0.many in (
      logs,
      full_logs s last.0 logs rules last.1
          (all_logs s last.0 logs many (λ j l.
          get_or-map-range_with_len (log_at s last.0) 0 s.nodes j j no_log (omega (arith, l, last.1.0.many))
          (omega arith))),
    )
