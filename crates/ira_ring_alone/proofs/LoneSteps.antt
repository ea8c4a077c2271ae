-- A turn of the lone runner is a step of a run.
use Rattle.std.proofs.Common.{◌≡◌, ◌≢◌, ℕ, ◌<◌, ◌≤◌, inl, inr, List, [], ◌∷◌, ◌++◌, length, refl, sym, ◌∙◌, subst, ap}
use Rattle.std.proofs.Common.{drop, append-nil, append_assoc, length-append, arith}
use Rattle.std.specs.List.{cons_option}
use Rattle.std.proofs.lemmas.List.Elements.{filter_map-append}
use Rattle.ira_event.specs.declared.event.Event.{Event}
use Rattle.ira_event.specs.declared.event.Event.TheVariants.{Draw, Sent, Got, Yield}
use Rattle.ira_event.specs.declared.load.Load.{Load}
use Rattle.ira_node.specs.declared.node_state.NodeState.{NodeState}
use Rattle.ira_node.specs.NodeStep.{NodeStep}
use Rattle.ira_node.proofs.Inversions.{drawing_chooses, sending_owes, yielding_leads}
use Rattle.ira_order.specs.Ring.{next, prev}
use Rattle.ira_order.specs.Run.{Configuration, LinkStep, RingStep}
use Rattle.ira_order.proofs.Ranks.{next_below}
use Rattle.std.proofs.lemmas.Bool.{cases_eq, cases_lt}
use Rattle.ira_order.proofs.Runs.{next_prev, prev_next, prev_below}
use Rattle.ira_ring_setup.specs.Setup.{Setup, node_draws}
use Rattle.ira_ring_setup.specs.Terms.{IsLastLeader}
use Rattle.ira_event.specs.Messages.{drawing, drawn}
use Rattle.ira_ring_setup.specs.FullRun.{opening_of, events_at, HasEvent, yields, owes, chooses, receives, CanStep}
use Rattle.ira_ring_alone.specs.LoneNode.{LoneNode, IsFirst, IsNext, drawn_by, after_event, after_put}
use Rattle.ira_ring_alone.specs.LoneRing.{node_at, IsMoved, IsReached}
use Rattle.ira_ring_setup.proofs.Walks.{walk_more, own_more, other_more, links_from}

-- ---- a node with a next event can step

-- an ID that is left is unused
unused : (ids used : List ℕ) (left : List ℕ) (id : ℕ) (rest : List ℕ) → ids ≡ used ++ left → left ≡ id ∷ rest
    → length used < length ids
unused ids used left id rest is first = omega (arith, ap length is, ap length first, length-append used left)

pub has_event : (n most terms : ℕ) (ids : List ℕ) (node : LoneNode) (e : Event) (after : NodeState)
    → IsNext n most terms node e after → ids ≡ drawn node.events ++ node.ids
    → HasEvent n terms ids node.state node.events node.input
has_event n most terms ids node (Draw id) after step left =
    let before = drawing_chooses n node.state after id step.step in
    chooses before.0 before.1 before.2 (unused ids (drawn node.events) node.ids id step.first.0.0 left step.first.0.1)
has_event n most terms ids node (Sent m) after step left = owes m (sending_owes n node.state after m step.step)
has_event n most terms ids node (Got m) after step left = receives m step.first.1.0 step.first.1.1 (after, step.step)
has_event n most terms ids node Yield after step left =
    let leads = yielding_leads n node.state after step.step in
    elim (cases_lt node.state.term terms) [
      | inl below ↦ yields leads below
      | inr past ↦ absurd (step.not_last (leads, omega arith))
    ]

pub can_step : (s : Setup) (run : List (ℕ × Event)) (c : Configuration) (i : ℕ) (node : LoneNode)
    → c.state i ≡ node.state → c.link (prev s.nodes i) ≡ node.input → events_at run i ≡ node.events
    → ¬ (IsLastLeader s.terms node.state) → length node.events < s.cap
    → HasEvent s.nodes s.terms (node_draws s i) node.state node.events node.input → CanStep s run c i
can_step s run c i node state link events not_last below_cap event =
    let P : NodeState → Type 0 = λ x. ¬ (IsLastLeader s.terms x) in
    let Q : NodeState → Type 0 =
    λ x. HasEvent s.nodes s.terms (node_draws s i) x (events_at run i) (c.link (prev s.nodes i)) in
    let R : List Event → Type 0 =
    λ x. HasEvent s.nodes s.terms (node_draws s i) node.state x (c.link (prev s.nodes i)) in
    let S : List Load → Type 0 = λ x. HasEvent s.nodes s.terms (node_draws s i) node.state node.events x in
    record {
      not_last = subst P (sym state) not_last;
      below_cap = omega (arith, ap length events);
      event = subst Q (sym state) (subst R (sym events) (subst S (sym link) event));
    }

-- ---- what a turn leaves of the nodes

-- all but node i keep their state, their events and their IDs
pub record IsKept (old new : LoneNode) : Type 0 where
  pub state : new.state ≡ old.state
  pub events : new.events ≡ old.events
  pub ids : new.ids ≡ old.ids

kept_same : (old new : LoneNode) → new ≡ old → IsKept old new
kept_same old new is = record {
  state = ap (λ (x : LoneNode). x.state) is;
  events = ap (λ (x : LoneNode). x.events) is;
  ids = ap (λ (x : LoneNode). x.ids) is;
}

kept_put : (old new : LoneNode) (m : Load) → new ≡ after_put old m → IsKept old new
kept_put old new m is = record {
  state = ap (λ (x : LoneNode). x.state) is;
  events = ap (λ (x : LoneNode). x.events) is;
  ids = ap (λ (x : LoneNode). x.ids) is;
}

module _ (n i : ℕ) (after : NodeState) (old new : List LoneNode) where
  pub own : (e : Event) → IsMoved n i e after old new → node_at new i ≡ after_event (node_at old i) e after
  own (Draw id) moved = moved.0
  own (Sent m) moved = moved.0
  own (Got m) moved = moved.0
  own Yield moved = moved.0

  pub apart : (e : Event) → IsMoved n i e after old new → (j : ℕ) → j ≢ i → IsKept (node_at old j) (node_at new j)
  apart (Draw id) moved j ne = kept_same (node_at old j) (node_at new j) (moved.1 j ne)
  apart (Got m) moved j ne = kept_same (node_at old j) (node_at new j) (moved.1 j ne)
  apart Yield moved j ne = kept_same (node_at old j) (node_at new j) (moved.1 j ne)
  apart (Sent m) moved j ne = elim (cases_eq j (next n i)) [
    | inl e ↦ (let P : ℕ → Type 0 = λ k. IsKept (node_at old k) (node_at new k) in
        subst P (sym e) (kept_put (node_at old (next n i)) (node_at new (next n i)) m moved.1))
    | inr other ↦ kept_same (node_at old j) (node_at new j) (moved.2 j ne other)
  ]

  -- the loads before each node
  link_step : (e : Event) → 2 ≤ n → i < n → IsMoved n i e after old new → IsFirst (node_at old i) e
      → LinkStep n i e (λ k. (node_at old (next n k)).input) (λ k. (node_at new (next n k)).input)
  link_step (Draw id) two here moved first = λ j lj. elim (cases_eq (next n j) i) [
    | inl e ↦ (let P : ℕ → Type 0 = λ k. (node_at new k).input ≡ (node_at old k).input in
        subst P (sym e) (ap (λ (x : LoneNode). x.input) moved.0))
    | inr ne ↦ ap (λ (x : LoneNode). x.input) (moved.1 (next n j) ne)
  ]
  link_step Yield two here moved first = λ j lj. elim (cases_eq (next n j) i) [
    | inl e ↦ (let P : ℕ → Type 0 = λ k. (node_at new k).input ≡ (node_at old k).input in
        subst P (sym e) (ap (λ (x : LoneNode). x.input) moved.0))
    | inr ne ↦ ap (λ (x : LoneNode). x.input) (moved.1 (next n j) ne)
  ]
  link_step (Sent m) two here moved first = (
    ap (λ (x : LoneNode). x.input) moved.1,
    λ j lj ne. elim (cases_eq (next n j) i) [
      | inl e ↦ (let P : ℕ → Type 0 = λ k. (node_at new k).input ≡ (node_at old k).input in
          subst P (sym e) (ap (λ (x : LoneNode). x.input) moved.0))
      | inr other ↦ ap (λ (x : LoneNode). x.input)
          (moved.2 (next n j) other (λ q.
          ne (prev_next n (next n i) j (next_below n i here) lj q
          ∙ sym (prev_next n (next n i) i (next_below n i here) here refl))))
    ],
  )
  link_step (Got m) two here moved first =
      let q : next n (prev n i) ≡ i = next_prev n i here in
      let before : (node_at old (next n (prev n i))).input ≡ m ∷ first.1.0 =
      ap (λ (k : ℕ). (node_at old k).input) q ∙ first.1.1 in
      let remainder : (node_at new (next n (prev n i))).input ≡ first.1.0 =
      ap (λ (k : ℕ). (node_at new k).input) q ∙ ap (λ (x : LoneNode). x.input) moved.0 ∙ ap (drop 1) first.1.1 in (
        before ∙ ap (λ (x : List Load). m ∷ x) (sym remainder),
        λ j lj ne. ap (λ (x : LoneNode). x.input) (moved.1 (next n j) (λ e. ne (prev_next n i j here lj e))),
      )

-- ---- a turn is a step of the run

-- the IDs that are left after an event
drawn_more : (events : List Event) (e : Event) → drawn (events ++ e ∷ []) ≡ drawn events ++ cons_option (drawing e) []
drawn_more events e = filter_map-append drawing events (e ∷ [])

left_after : (node : LoneNode) (e : Event) (ids : List ℕ) → IsFirst node e → ids ≡ drawn node.events ++ node.ids
    → ids ≡ drawn (node.events ++ e ∷ []) ++ drop (drawn_by e) node.ids
left_after node (Draw id) ids first left =
    left
    ∙ ap (λ (x : List ℕ). drawn node.events ++ x) first.0.1
    ∙ sym (append_assoc (drawn node.events) (id ∷ []) first.0.0)
    ∙ ap (λ (x : List ℕ). x ++ first.0.0) (sym (drawn_more node.events (Draw id)))
    ∙ ap (λ (x : List ℕ). drawn (node.events ++ Draw id ∷ []) ++ x) (sym (ap (drop 1) first.0.1))
left_after node (Sent m) ids first left =
    left ∙ ap (λ (x : List ℕ). x ++ node.ids) (sym (drawn_more node.events (Sent m) ∙ append-nil (drawn node.events)))
left_after node (Got m) ids first left =
    left ∙ ap (λ (x : List ℕ). x ++ node.ids) (sym (drawn_more node.events (Got m) ∙ append-nil (drawn node.events)))
left_after node Yield ids first left =
    left ∙ ap (λ (x : List ℕ). x ++ node.ids) (sym (drawn_more node.events Yield ∙ append-nil (drawn node.events)))

-- the link that leads to the next node
link_is : (n : ℕ) (nodes : List LoneNode) (link : ℕ → List Load)
    → ((i : ℕ) → i < n → link (prev n i) ≡ (node_at nodes i).input) → (k : ℕ) → k < n
    → link k ≡ (node_at nodes (next n k)).input
link_is n nodes link links k l = ap link (prev_next n (next n k) k (next_below n k l) l refl)
    ∙ links (next n k) (next_below n k l)

abbrev point_of : ℕ → List LoneNode → Configuration
point_of n nodes = record { state = λ j. (node_at nodes j).state; link = λ k. (node_at nodes (next n k)).input }

module _ (s : Setup) (old new : List LoneNode) (i : ℕ) (e : Event) (after : NodeState)
    (two : 2 ≤ s.nodes)
    (here : i < s.nodes)
    (reached : IsReached s old)
    (is_next : IsNext s.nodes s.cap s.terms (node_at old i) e after)
    (moved : IsMoved s.nodes i e after old new) where
  node_is : node_at new i ≡ after_event (node_at old i) e after
  node_is = own s.nodes i after old new e moved

  kept : (j : ℕ) → j ≢ i → IsKept (node_at old j) (node_at new j)
  kept = apart s.nodes i after old new e moved

  ring_step : RingStep s.nodes i e reached.point (point_of s.nodes new)
  ring_step =
      let P : NodeState → Type 0 = λ x. NodeStep s.nodes x e after in
      let Q : NodeState → Type 0 = λ x. NodeStep s.nodes (reached.point.state i) e x in
      record {
        place = here;
        node = subst Q (sym (ap (λ (x : LoneNode). x.state) node_is))
            (subst P (sym (reached.states i here)) is_next.step);
        others = λ j lj ne. (kept j ne).state ∙ sym (reached.states j lj);
        links = links_from s.nodes i e (λ k. (node_at old (next s.nodes k)).input) reached.point.link (λ k.
            (node_at new (next s.nodes k)).input) here (prev_below s.nodes i here)
            (link_is s.nodes old reached.point.link reached.links)
            (link_step s.nodes i after old new e two here moved is_next.first);
      }

  may_step : CanStep s reached.run reached.point i
  may_step =
      can_step s reached.run reached.point i (node_at old i) (reached.states i here) (reached.links i here)
      (reached.events i here) is_next.not_last is_next.below_cap
      (has_event s.nodes s.cap s.terms (node_draws s i) (node_at old i) e after is_next (reached.draws i here))

  events_of : (j : ℕ) → j < s.nodes → events_at (reached.run ++ (i, e) ∷ []) j ≡ (node_at new j).events
  events_of j lj = elim (cases_eq i j) [
    | inl q ↦
        let P : ℕ → Type 0 = λ k. events_at (reached.run ++ (i, e) ∷ []) k ≡ (node_at new k).events in
        subst P q (own_more reached.run i i e refl ∙ ap (λ (x : List Event). x ++ e ∷ []) (reached.events i here)
        ∙ sym (ap (λ (x : LoneNode). x.events) node_is))
    | inr ne ↦ other_more reached.run i j e ne ∙ reached.events j lj ∙ sym (kept j (λ q. ne (sym q))).events
  ]

  draws_of : (j : ℕ) → j < s.nodes → node_draws s j ≡ drawn (node_at new j).events ++ (node_at new j).ids
  draws_of j lj = elim (cases_eq i j) [
    | inl q ↦
        let P : ℕ → Type 0 = λ k. node_draws s k ≡ drawn (node_at new k).events ++ (node_at new k).ids in
        let Q : LoneNode → Type 0 = λ x. node_draws s i ≡ drawn x.events ++ x.ids in
        subst P q (subst Q (sym node_is)
        (left_after (node_at old i) e (node_draws s i) is_next.first (reached.draws i here)))
    | inr ne ↦
        let k = kept j (λ q. ne (sym q)) in
        reached.draws j lj ∙ ap (λ (x : List Event). drawn x ++ (node_at old j).ids) (sym k.events)
        ∙ ap (λ (x : List ℕ). drawn (node_at new j).events ++ x) (sym k.ids)
  ]

  pub turn_reaches : length new ≡ length old → IsReached s new
  turn_reaches many = record {
    many = many ∙ reached.many;
    run = reached.run ++ (i, e) ∷ [];
    point = point_of s.nodes new;
    walk = walk_more s [] (opening_of s) reached.run reached.point i e (point_of s.nodes new) reached.walk may_step
        ring_step;
    states = λ j lj. refl;
    links = λ j lj. ap (λ (k : ℕ). (node_at new k).input) (next_prev s.nodes j lj);
    events = events_of;
    draws = draws_of;
  }
