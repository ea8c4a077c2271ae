-- What the nodes of logs drew, as far as a run of them has come.
use Rattle.std.proofs.Common.{◌≡◌, ℕ, suc, ◌+◌, ◌<◌, ◌≤◌, ◌⊎◌, inl, inr, List, length, sym, ◌∙◌, subst, ap, arith}
use Rattle.std.specs.Prelude.{slice_get}
use Rattle.std.proofs.lemmas.Bool.{cases_eq, cases_lt}
use Rattle.ira_event.specs.declared.event.Event.{Event}
use Rattle.ira_event.specs.Log.{Log}
use Rattle.ira_node.specs.declared.node_state.NodeState.{NodeState}
use Rattle.ira_node.specs.declared.phase.Phase.{Phase}
use Rattle.ira_node.specs.declared.phase.Phase.TheVariants.{Choosing, Active, Passive, Leader, Yielding}
use Rattle.ira_node.specs.NodeState.{first_state}
use Rattle.ira_order.specs.Run.{Configuration, RingStep, is_initiator}
use Rattle.ira_safety.proofs.Steps.{IsStill}
use Rattle.ira_election.proofs.Election.{phase_in, phases_of, messages_of, IsWithin, IsOn, IsPast}
use Rattle.ira_election.proofs.Drawn.{IsTold, IsSaid, IsGrown, turn_told, same_told, told_said, said_on}
use Rattle.ira_election.proofs.Onwards.{IsGoing, IsEnded, turn_going, same_going, going_ended, ended_on}
use Rattle.ira_election.proofs.Queues.{phase_before, phase_now}
use Rattle.ira_election.proofs.Keeps.{IsSound, seen}
use Rattle.ira_election.proofs.Past.{on_or_past, stays_past}
use Rattle.ira_election.proofs.Going.{IsCutOfRuns, st, more_of, more_yes, more_no}

-- ---- of one node

-- a phase in the election of a term that no node is past, other than that in which a node comes to it
pub now_in : (term : ℕ) (s : NodeState) (p : Phase) → s.term ≤ term → (p ≡ Choosing 1 → ⊥) → phase_in term s ≡ p
    → (s.term ≡ term) × (s.phase ≡ p)
now_in term s p low other is = elim (cases_lt s.term term) [
  | inl early ↦ absurd (other (sym is ∙ phase_before term s early))
  | inr now ↦ (omega arith, sym (phase_now term s now) ∙ is)
]

pub in_now : (term : ℕ) (s : NodeState) (p : Phase) → s.term ≡ term → s.phase ≡ p → phase_in term s ≡ p
in_now term s p now is = phase_now term s (omega arith) ∙ is

pub not_still : (term : ℕ) (s : NodeState) (p q : Phase) → IsStill term p s → s.term ≡ term → s.phase ≡ q → p ≡ q
not_still term s p q (inl past) now is = absurd (omega arith)
not_still term s p q (inr here) now is = sym here.1 ∙ is

-- ---- of logs

module _ {logs : List Log} {cut : ℕ → ℕ} (r : IsCutOfRuns logs cut) (term : ℕ) where
  -- among the first (at i) events of node i is one after which it is in the term, in this phase
  abbrev pub Was : (ℕ → ℕ) → ℕ → Phase → Type 0
  Was at i p = (a : ℕ) × (a ≤ at i) × ((st r i a).term ≡ term) × ((st r i a).phase ≡ p)

  abbrev pub Drawn : (ℕ → ℕ) → ℕ → ℕ → ℕ → Type 0
  Drawn at i x y = Was at i (Active x y)

  abbrev pub Led : (ℕ → ℕ) → ℕ → ℕ → ℕ → Type 0
  Led at i x y = Was at i (Leader x y)

  abbrev n : ℕ
  n = length logs

  -- node j begins to choose in the term, or is passive from its beginning on
  abbrev pub Begins : Phase → ℕ → Type 0
  Begins p j = phase_in term (first_state (is_initiator (slice_get logs j))) ≡ p

  -- the election of the term is on, and what was drawn in it is told; or it is past, and what was drawn is said
  pub record Now (c : Configuration) (at : ℕ → ℕ) : Type 0 where
    pub on : IsOn n term c
    pub told : IsTold n (phases_of term c) (messages_of n term c) (Drawn at) (Led at)
    pub going : IsGoing n (phases_of term c) (messages_of n term c) (Drawn at) (Led at) (Begins (Choosing 1))
        (Begins Passive)

  pub record Then (c : Configuration) (at : ℕ → ℕ) : Type 0 where
    pub y : ℕ
    pub past : IsPast n term y c
    pub said : IsSaid n (Drawn at) (Led at)
    pub ended : IsEnded n (Drawn at) (Led at) (Begins (Choosing 1)) (Begins Passive)

  abbrev pub Tells : Configuration → (ℕ → ℕ) → Type 0
  Tells c at = Now c at ⊎ Then c at

  module _ (i : ℕ) (e : Event) (c d : Configuration) (at : ℕ → ℕ) (step : RingStep n i e c d)
      (sound : IsSound n c) (comes : d.state i ≡ st r i (suc (at i))) where
    more_was : (j : ℕ) (p : Phase) → Was at j p → Was (more_of at i) j p
    more_was j p w = elim (cases_eq j i) [
      | inl same ↦ (
        w.0,
        subst (λ (k : ℕ). w.0 ≤ more_of at i k) (sym same)
            (omega (arith, more_yes at i, subst (λ (k : ℕ). w.0 ≤ at k) same w.1)),
        w.2,
        w.3,
      )
      | inr ne ↦ (w.0, omega (arith, more_no at i j ne, w.1), w.2, w.3)
    ]

    was_more : (j : ℕ) (p : Phase) → Was (more_of at i) j p
        → Was at j p ⊎ ((j ≡ i) × ((d.state i).term ≡ term) × ((d.state i).phase ≡ p))
    was_more j p w = elim (cases_eq j i) [
      | inr ne ↦ inl (w.0, omega (arith, more_no at i j ne, w.1), w.2, w.3)
      | inl same ↦
          let low : w.0 ≤ at i + 1 = omega (arith, more_yes at i, subst (λ (k : ℕ). w.0 ≤ more_of at i k) same w.1) in
          elim (cases_lt (at i) w.0) [
            | inr less ↦ inl (w.0, subst (λ (k : ℕ). w.0 ≤ at k) (sym same) less, w.2, w.3)
            | inl more ↦
                let is : w.0 ≡ suc (at i) = omega arith in
                let there : d.state i ≡ st r j w.0 = comes ∙ ap (st r i) (sym is)
                ∙ ap (λ (k : ℕ). st r k w.0) (sym same) in
                inr (same, ap (λ (s : NodeState). s.term) there ∙ w.2, ap (λ (s : NodeState). s.phase) there ∙ w.3)
          ]
    ]

    was_now : (p : Phase) → (d.state i).term ≡ term → (d.state i).phase ≡ p → Was (more_of at i) i p
    was_now p now is = (
      suc (at i),
      omega (arith, more_yes at i),
      ap (λ (s : NodeState). s.term) (sym comes) ∙ now,
      ap (λ (s : NodeState). s.phase) (sym comes) ∙ is,
    )

    grown : IsWithin n term d
        → IsGrown i (phases_of term d i) (Drawn at) (Drawn (more_of at i)) (Led at) (Led (more_of at i))
    grown within = record {
      grow = λ j x y w. more_was j (Active x y) w;
      new = λ j x y w. elim (was_more j (Active x y) w) [
        | inl old ↦ inl old
        | inr now ↦ inr (now.0, in_now term (d.state i) (Active x y) now.1 now.2)
      ];
      now = λ x y is.
          (let h = now_in term (d.state i) (Active x y) (within.terms i step.place)
          (λ q. (let w : ⊥ = cc in w)) is in
          was_now (Active x y) h.0 h.1);
      leads = λ j x y w. elim (was_more j (Leader x y) w) [
        | inl old ↦ inl old
        | inr now ↦ inr (now.0, in_now term (d.state i) (Leader x y) now.1 now.2)
      ];
      led = λ j x y w. more_was j (Leader x y) w;
      wins = λ x y is.
          (let h = now_in term (d.state i) (Leader x y) (within.terms i step.place)
          (λ q. (let w : ⊥ = cc in w)) is in
          was_now (Leader x y) h.0 h.1);
    }

    -- of a term that is past nothing is new
    none_new : (y j : ℕ) (p : Phase) → IsPast n term y d → (Passive ≡ p → ⊥) → (Yielding ≡ p → ⊥)
        → Was (more_of at i) j p → Was at j p
    none_new y j p past np ny w = elim (was_more j p w) [
      | inl old ↦ old
      | inr now ↦ absurd (elim (cases_eq i y) [
        | inl q ↦ ny (not_still term (d.state i) Yielding p
            (subst (λ (k : ℕ). IsStill term Yielding (d.state k)) (sym q) past.own) now.1 now.2)
        | inr ne ↦ np (not_still term (d.state i) Passive p (past.others i step.place ne) now.1 now.2)
      ])
    ]

    then_on : (y : ℕ) → IsPast n term y d → IsSaid n (Drawn at) (Led at)
        → IsEnded n (Drawn at) (Led at) (Begins (Choosing 1)) (Begins Passive) → Then d (more_of at i)
    then_on y past said ended =
        let to : (j u v : ℕ) → j < n → Drawn at j u v → Drawn (more_of at i) j u v = λ j u v lj w.
        more_was j (Active u v) w in
        let from : (j u v : ℕ) → j < n → Drawn (more_of at i) j u v → Drawn at j u v = λ j u v lj w.
        none_new y j (Active u v) past (λ q. (let z : ⊥ = cc in z)) (λ q. (let z : ⊥ = cc in z)) w in
        let led_from : (j u v : ℕ) → j < n → Led (more_of at i) j u v → Led at j u v = λ j u v lj w.
        none_new y j (Leader u v) past (λ q. (let z : ⊥ = cc in z)) (λ q. (let z : ⊥ = cc in z)) w in
        record {
          y = y;
          past = past;
          said = said_on to from led_from said;
          ended = ended_on to from led_from ended;
        }

    two : 2 ≤ n
    two = r.two

    now_on : Now c at → IsOn n term d → Now d (more_of at i)
    now_on now on' =
        let g = grown on'.within in
        elim (seen n i term two e c d step sound on'.within) [
          | inl turn ↦ record {
            on = on';
            told = turn_told turn g now.on.alive on'.orderly now.on.guarded now.told;
            going = turn_going turn g now.on.alive now.told now.going;
          }
          | inr same ↦
              let to : (j u v : ℕ) → j < n → Drawn at j u v → Drawn (more_of at i) j u v = λ j u v lj w.
              g.grow j u v w in
              let from : (j u v : ℕ) → j < n → Drawn (more_of at i) j u v → Drawn at j u v = λ j u v lj w.
              elim (g.new j u v w) [
                | inl old ↦ old
                | inr new ↦ subst (λ (k : ℕ). Drawn at k u v) (sym new.0)
                    (now.told.active i u v step.place (sym (same.phases i step.place) ∙ new.1))
              ] in
              let led_to : (j u v : ℕ) → j < n → Led at j u v → Led (more_of at i) j u v = λ j u v lj w.
              g.led j u v w in
              let led_from : (j u v : ℕ) → j < n → Led (more_of at i) j u v → Led at j u v = λ j u v lj w.
              elim (g.leads j u v w) [
                | inl old ↦ old
                | inr new ↦ subst (λ (k : ℕ). Led at k u v) (sym new.0)
                    (now.told.leader i u v step.place (sym (same.phases i step.place) ∙ new.1))
              ] in
              record {
                on = on';
                told = same_told same now.told to from led_to led_from;
                going = same_going same now.going to from led_from;
              }
        ]

    pub tells_on : Tells c at → Tells d (more_of at i)
    tells_on (inr w) = inr (then_on w.y (stays_past n i term two e c d step sound w.y w.past) w.said w.ended)
    tells_on (inl now) = elim (on_or_past n i term two e c d step sound (inl now.on)) [
      | inl on' ↦ inl (now_on now on')
      | inr past ↦ inr (then_on past.0 past.1 (told_said now.told) (going_ended now.on.orderly now.going))
    ]
