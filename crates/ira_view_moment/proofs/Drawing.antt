-- The draws of a log: each in a later round than those before it.
use Rattle.std.proofs.Common.{◌≡◌, ◌∙◌, ℕ, suc, ◌+◌, ◌<◌, ◌≤◌, ◌⊎◌, inl, inr, List, Some, refl, sym, subst, ap, arith}
use Rattle.std.specs.Prelude.{◌↔◌, slice_get, slice_index, ⊤}
use Rattle.std.proofs.lemmas.Bool.{cases_lt}
use Rattle.ira_event.specs.declared.event.Event.{Event}
use Rattle.ira_event.specs.declared.event.Event.TheVariants.{Draw}
use Rattle.ira_event.specs.Log.{Log}
use Rattle.ira_node.specs.declared.node_state.NodeState.{NodeState}
use Rattle.ira_node.specs.declared.phase.Phase.{Phase}
use Rattle.ira_node.specs.declared.phase.Phase.TheVariants.{Active, Choosing, Passive, Yielding}
use Rattle.ira_node.specs.NodeStep.{NodeStep, sends, draws, passes, gives_in, purges, meets, ties, wins, yields}
use Rattle.ira_node.specs.NodeStep.{restarts, comes_home}
use Rattle.ira_order.specs.Ring.{events_of, log_of}
use Rattle.ira_order.specs.Run.{AreLocalRuns}
use Rattle.ira_safety.specs.OneLeader.{IsIn}
use Rattle.ira_safety.proofs.Course.{IsCourse, kept, log_course, log_reached, log_state}
use Rattle.ira_election.specs.Draws.{Drew}
use Rattle.ira_election.proofs.Draws.{by_draw}
use Rattle.ira_view_moment.specs.Drawing.{DrewBefore}
use Rattle.ira_view_moment.specs.NodeProgress.{Reaches}
use Rattle.ira_view_moment.proofs.Added.{IsOneMore}

-- a node in this phase draws in this round of its term no more
abbrev Past : ℕ → Phase → Type 0
Past round (Choosing x) = round < x
Past round (Active x y) = round ≤ x
Past round phase = ⊤

abbrev IsPast : ℕ → ℕ → NodeState → Type 0
IsPast term round s = (term < s.term) ⊎ ((s.term ≡ term) × Past round s.phase)

on : {A B P Q : Type 0} → (P → Q) → A ⊎ (B × P) → A ⊎ (B × Q)
on f (inl a) = inl a
on f (inr b) = inr (b.0, f b.1)

past_on : (term round n : ℕ) (s : NodeState) (e : Event) (t : NodeState) → NodeStep n s e t → IsPast term round s
    → IsPast term round t
past_on term round n s e t step p =
    let F : NodeState → Type 0 = IsPast term round in
    elim step [
      | sends l runs o ee et ↦ subst F (sym et) p
      | draws k r id es ee lo hi et ↦
          subst F (sym et) (on {P = round < r} {Q = round ≤ r} (λ l. omega (arith, l)) (subst F es p))
      | passes k m es ee j et ↦ subst F (sym et) (subst F es p)
      | gives_in k r id m es ee g j et ↦ subst F (sym et) (on {P = round ≤ r} (λ l. tt) (subst F es p))
      | purges k r id m es ee g et ↦ subst F (sym et) p
      | meets k r id m es ee g i j et ↦ subst F (sym et) (subst F es p)
      | ties k r id m es ee g i d j et ↦
          subst F (sym et) (on {P = round ≤ r} {Q = round < r + 1} (λ l. omega (arith, l)) (subst F es p))
      | wins k r id m es ee g i d et ↦ subst F (sym et) (on {P = round ≤ r} (λ l. tt) (subst F es p))
      | yields l ee low et ↦ subst F (sym et) (on {P = Past round s.phase} (λ l. tt) p)
      | restarts k h es ee below low et ↦ subst F (sym et) (inl (up k Passive (subst F es p)))
      | comes_home k es ee low et ↦ subst F (sym et) (inl (up k Yielding (subst F es p)))
    ]
  where
    up : (k : ℕ) (phase : Phase) → (term < k) ⊎ ((k ≡ term) × Past round phase) → term < k + 1
    up k phase (inl less) = omega (arith, less)
    up k phase (inr same) = omega (arith, same.0)

module _ (logs : List Log) (local : AreLocalRuns logs) where
  state_is : (i a : ℕ) (s : NodeState) → IsIn logs i a s → s ≡ log_state (slice_get logs i) (local i) a
  state_is i a s is = log_reached (slice_get logs i) (local i) is.log a s is.at is.reached

  -- a node draws in a round once
  not_again : (i term round id b : ℕ) (x : Drew logs i term round id) (u : NodeState) → IsIn logs i b u → x.events < b
      → u.term ≡ term → u.phase ≡ Choosing round → ⊥
  not_again i term round id b x u is_in less on_term chooses =
      let st : ℕ → NodeState = log_state (slice_get logs i) (local i) in
      let n : ℕ = x.is_in.log.nodes in
      let course : IsCourse n (events_of (slice_get logs i)) st = log_course (slice_get logs i) (local i) n (λ l at. (
      let same : Some l ≡ Some x.is_in.log = sym at ∙ x.is_in.at in
      let e : l ≡ x.is_in.log = cc in ap (λ (q : Log). q.nodes) e)) in
      let here = state_is i x.events x.state x.is_in in
      let drawn = by_draw n (st x.events) (Draw id) (st (suc x.events)) round id (course.steps x.events (Draw id) x.draws)
      refl (ap (λ (q : NodeState). q.phase) (sym here) ∙ x.chooses) in
      let first : IsPast term round (st (suc x.events)) =
      inr (drawn.0 ∙ ap (λ (q : NodeState). q.term) (sym here) ∙ x.term_is, subst (Past round) (sym drawn.1) (omega arith)) in
      let past = subst (IsPast term round) (sym (state_is i b u is_in))
      (kept n (events_of (slice_get logs i)) st course (IsPast term round) (past_on term round n) (suc x.events) b
      (omega (arith, less)) first) in
      elim past [
        | inl late ↦ omega (arith, late, on_term)
        | inr now ↦ (let l : round < round = subst (Past round) chooses now.1 in omega (arith, l))
      ]

-- ---- event by event

module _ (logs : List Log) (cut : List ℕ) (local : AreLocalRuns logs) (p : ℕ) (log : Log)
    (at : slice_get logs p ≡ Some log) (k : ℕ) (s : NodeState) (e : Event) (reached : Reaches log k s)
    (found : slice_get log.events k ≡ Some e) (within : k < slice_index cut p) where
  is_in : IsIn logs p k s
  is_in = record { log = log; at = at; reached = reached }

  more : (i t n d : ℕ) → DrewBefore logs cut p k i t n d → DrewBefore logs cut p (k + 1) i t n d
  more i t n d (w, inl less) = (w, inl less)
  more i t n d (w, inr own) = (w, inr (own.0, omega (arith, own.1)))

  -- a draw that is new with one event more is this event
  is_last : (i t n d : ℕ) → DrewBefore logs cut p (k + 1) i t n d
      → DrewBefore logs cut p k i t n d ⊎ ((i ≡ p) × (e ≡ Draw d) × (s.term ≡ t) × (s.phase ≡ Choosing n))
  is_last i t n d (w, inl less) = inl (w, inl less)
  is_last i t n d (w, inr own) = elim (cases_lt w.drew.events k) [
    | inl before ↦ inl (w, inr (own.0, before))
    | inr last ↦
        let x = w.drew in
        let here : x.events ≡ k = omega (arith, own.1, last) in
        let is : IsIn logs p k x.state =
        subst (λ j. IsIn logs p j x.state) here (subst (λ j. IsIn logs j x.events x.state) own.0 x.is_in) in
        let same : x.state ≡ s = state_is logs local p k x.state is ∙ sym (state_is logs local p k s is_in) in
        let drawn : slice_get (events_of (Some log)) k ≡ Some (Draw d) =
        subst (λ o. slice_get (events_of o) k ≡ Some (Draw d)) at
        (subst (λ j. slice_get (log_of logs j) k ≡ Some (Draw d)) own.0
        (subst (λ j. slice_get (log_of logs i) j ≡ Some (Draw d)) here x.draws)) in
        let event : Some e ≡ Some (Draw d) = sym found ∙ drawn in
        let is_draw : e ≡ Draw d = cc in
        inr (
          own.0,
          is_draw,
          ap (λ (q : NodeState). q.term) (sym same) ∙ x.term_is,
          ap (λ (q : NodeState). q.phase) (sym same) ∙ x.chooses,
        )
  ]

  pub draws_same : ((round id : ℕ) → e ≡ Draw id → s.phase ≡ Choosing round → ⊥) → (i t n d : ℕ)
      → DrewBefore logs cut p k i t n d ↔ DrewBefore logs cut p (k + 1) i t n d
  draws_same never i t n d = (
    more i t n d,
    λ h. elim (is_last i t n d h) [ inl old ↦ old | inr new ↦ absurd (never n d new.1 new.3) ],
  )

  pub draws_more : (round id : ℕ) → e ≡ Draw id → s.phase ≡ Choosing round
      → IsOneMore (DrewBefore logs cut p k) (DrewBefore logs cut p (k + 1)) s.term round p id
  draws_more round id is phase = record {
    kept = more;
    new = (
      record {
        drew = record {
          events = k;
          state = s;
          is_in = is_in;
          term_is = refl;
          chooses = phase;
          draws = subst (λ o. slice_get (events_of o) k ≡ Some (Draw id)) (sym at) (found ∙ ap Some is);
        };
        within = within;
      },
      inr (refl, omega arith),
    );
    only = λ i t n d h. elim (is_last i t n d h) [
      | inl old ↦ inl old
      | inr it ↦
          let ids : Draw d ≡ Draw id = sym it.1 ∙ is in
          let rounds : Choosing n ≡ Choosing round = sym it.3 ∙ phase in
          let same_id : d ≡ id = cc in
          let same_round : n ≡ round = cc in
          inr (it.0, sym it.2, same_round, same_id)
    ];
    below = λ i d h. elim h.1 [
      | inl less ↦ less
      | inr own ↦ absurd (not_again logs local i s.term round d k h.0.drew s
          (subst (λ j. IsIn logs j k s) (sym own.0) is_in) own.1 refl phase)
    ];
  }

-- ---- node by node

pub node_done : (logs : List Log) (cut : List ℕ) (p i t n d : ℕ)
    → DrewBefore logs cut p (slice_index cut p) i t n d ↔ DrewBefore logs cut (p + 1) 0 i t n d
node_done logs cut p i t n d = (to, from)
  where
    to : DrewBefore logs cut p (slice_index cut p) i t n d → DrewBefore logs cut (p + 1) 0 i t n d
    to (w, inl less) = (w, inl (omega (arith, less)))
    to (w, inr own) = (w, inl (omega (arith, own.0)))

    from : DrewBefore logs cut (p + 1) 0 i t n d → DrewBefore logs cut p (slice_index cut p) i t n d
    from (w, inr own) = absurd (omega (arith, own.1))
    from (w, inl less) = elim (cases_lt i p) [
      | inl below ↦ (w, inl below)
      | inr above ↦
          let is : i ≡ p = omega (arith, less, above) in
          (w, inr (is, subst (λ j. w.drew.events < slice_index cut j) is w.within))
    ]
