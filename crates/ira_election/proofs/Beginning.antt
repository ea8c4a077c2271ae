-- How runs begin: the election of each term is on, where a node is an initiator, and else nothing comes to be.
use Rattle.std.proofs.Common.{◌≡◌, ℕ, zero, suc, ◌+◌, ◌<◌, ◌≤◌, ◌⊎◌, inl, inr, Bool, true, false, List, [], ◌∷◌, ◌++◌}
use Rattle.std.proofs.Common.{Some, refl, sym, ◌∙◌, subst, ap, arith}
use Rattle.std.proofs.lemmas.Bool.{cases_eq, cases_lt}
use Rattle.ira_event.specs.declared.event.Event.{Event}
use Rattle.ira_event.specs.declared.event.Event.TheVariants.{Got}
use Rattle.ira_event.specs.declared.load.Load.{Load}
use Rattle.ira_event.specs.declared.load.Load.TheVariants.{Msg as Message, Reset}
use Rattle.ira_event.specs.declared.msg.Msg.{Msg}
use Rattle.ira_node.specs.declared.node_state.NodeState.{NodeState}
use Rattle.ira_node.specs.declared.phase.Phase.{Phase}
use Rattle.ira_node.specs.declared.phase.Phase.TheVariants.{Choosing, Active, Passive, Leader}
use Rattle.ira_node.specs.NodeState.{free, first_state, IsLeader}
use Rattle.ira_node.specs.NodeStep.{NodeStep, sends, draws, passes, gives_in, purges, meets, ties, wins, yields}
use Rattle.ira_node.specs.NodeStep.{restarts, comes_home}
use Rattle.ira_order.specs.Ring.{next}
use Rattle.ira_order.specs.Run.{Configuration, RingStep, LinkStep}
use Rattle.ira_safety.specs.Reaches.{Reaches, beginning}
use Rattle.ira_safety.proofs.Steps.{settled_first, resets, yielding, phase_is}
use Rattle.ira_safety.proofs.Terms.{first_owes}
use Rattle.ira_safety.proofs.Course.{first_state_term}
use Rattle.ira_election.proofs.Election.{debt, queue, of_term, messages_of, Has, phase_in, HasRank, IsOn, IsOnOrPast}
use Rattle.ira_election.proofs.Turns.{has_split, none_of}
use Rattle.ira_election.proofs.Queues.{owed_is, phase_before, phase_now, not_some}
use Rattle.ira_election.proofs.Keeps.{IsSound}
use Rattle.ira_election.proofs.Past.{run_on}

-- ---- places

-- below n each is so, or one is other
pub all_or_one : (A B : ℕ → Type 0) (n : ℕ) → ((j : ℕ) → j < n → A j ⊎ B j) → ((j : ℕ) → j < n → A j)
    ⊎ ((j : ℕ) × (j < n) × B j)
all_or_one A B zero h = inl (λ j l. absurd (omega arith))
all_or_one A B (suc n) h = elim (all_or_one A B n (λ j l. h j (omega arith))) [
  | inr other ↦ inr (other.0, omega (arith, other.1), other.2)
  | inl before ↦ elim (h n (omega arith)) [
    | inr here ↦ inr (n, omega arith, here)
    | inl here ↦ inl (λ j l. elim (cases_eq j n) [
      | inl e ↦ subst A (sym e) here
      | inr ne ↦ before j (omega arith)
    ])
  ]
]

pub initiator_or : (b : Bool) → (b ≡ false) ⊎ (b ≡ true)
initiator_or true = inr refl
initiator_or false = inl refl

-- ---- where a node is an initiator

pub first_runs : (b : Bool) → yielding (first_state b).phase ≡ 0
first_runs true = refl
first_runs false = refl

pub first_queue : (initiators : ℕ → Bool) (j : ℕ) → queue (beginning initiators) j ≡ []
first_queue initiators j = ap debt (first_owes (initiators j))

pub begins_sound : (n : ℕ) (initiators : ℕ → Bool) → IsSound n (beginning initiators)
begins_sound n initiators = record {
  settled = λ j lj. settled_first (initiators j);
  positive = λ j lj. omega (arith, first_state_term (initiators j));
  even = λ j lj. omega (
    arith,
    first_state_term (initiators j),
    first_state_term (initiators (next n j)),
    first_runs (initiators j),
    ap resets (first_queue initiators j),
  );
}

first_phase : (term : ℕ) (b : Bool) → (phase_in term (first_state b) ≡ Choosing 1)
    ⊎ (phase_in term (first_state b) ≡ Passive)
first_phase term true = elim (cases_lt 1 term) [
  | inl early ↦ inl (phase_before term (first_state true) early)
  | inr now ↦ inl (phase_now term (first_state true) now)
]
first_phase term false = elim (cases_lt 1 term) [
  | inl early ↦ inl (phase_before term (first_state false) early)
  | inr now ↦ inr (phase_now term (first_state false) now)
]

pub begins_on : (n term : ℕ) (initiators : ℕ → Bool) (k : ℕ) → 1 ≤ term → k < n → initiators k ≡ true
    → IsOn n term (beginning initiators)
begins_on n term initiators k one lk is =
    let c : Configuration = beginning initiators in
    let empty : (j : ℕ) → messages_of n term c j ≡ [] = λ j.
    ap (of_term term (first_state (initiators (next n j))).term) (first_queue initiators j) in
    let nothing : (j : ℕ) (m : Msg) → Has (messages_of n term c j) m → ⊥ = λ j m.
    none_of m (messages_of n term c j) (empty j) in
    let nowhere : (j : ℕ) (m : Msg) (front behind : List Msg) → messages_of n term c j ≡ front ++ m ∷ behind → ⊥ =
    λ j m front behind e. nothing j m (has_split (messages_of n term c j) m front behind e) in
    let chooses : phase_in term (first_state true) ≡ Choosing 1 = elim (cases_lt 1 term) [
      | inl low ↦ phase_before term (first_state true) low
      | inr now ↦ phase_now term (first_state true) now
    ] in
    record {
      within = record {
        terms = λ j lj. omega (arith, first_state_term (initiators j));
        none_yields = λ j lj now. first_runs (initiators j);
      };
      alive = record {
        some = (
          k,
          1,
          0,
          record {
            place = lk;
            rank = subst (λ (b : Bool). HasRank (phase_in term (first_state b)) 1 0) (sym is)
                (subst (λ (p : Phase). HasRank p 1 0) (sym chooses) (refl, refl));
          },
        );
        reached = λ i m li h. absurd (nothing i m h);
        own = λ a x y la pa top. absurd (elim (first_phase term (initiators a)) [
          | inl first ↦ (let z : Choosing 1 ≡ Active x y = sym first ∙ pa in let w : ⊥ = cc in w)
          | inr first ↦ (let z : Passive ≡ Active x y = sym first ∙ pa in let w : ⊥ = cc in w)
        ]);
      };
      orderly = record {
        clean = λ j m a b h lj is clean la at lb two low far. absurd (nothing j m is);
        origins = λ j m x y lj is mr mi top. absurd (nothing j m is);
        order = λ a x y j m front behind la pa top lj parts mr mi at. absurd (nowhere j m front behind parts);
        ends = λ a x y la leads. absurd (elim (first_phase term (initiators a)) [
          | inl first ↦ (let z : Choosing 1 ≡ Leader x y = sym first ∙ leads in let w : ⊥ = cc in w)
          | inr first ↦ (let z : Passive ≡ Leader x y = sym first ∙ leads in let w : ⊥ = cc in w)
        ]);
      };
      guarded = record {
        origins = λ j m lj is. absurd (nothing j m is);
        held = λ j m a lj is la at. absurd (nothing j m is);
        fronts = λ j m a front behind g lj la parts at ahead under. absurd (nowhere j m front behind parts);
      };
    }

-- ---- without an initiator

-- the hop of a load
pub hop : Load → ℕ
hop (Message m) = m.hop
hop (Reset h) = h

-- a passive node that owes nothing receives, and owes the load with its hop raised
pub record Passes (e : Event) (t : NodeState) : Type 0 where
  pub m : Load
  pub o : Load
  pub gets : e ≡ Got m
  pub owes : t.owed ≡ Some o
  pub more : hop o ≡ hop m + 1

pub passive_passes : (n : ℕ) (s : NodeState) (e : Event) (t : NodeState) → s ≡ free 1 Passive
    → NodeStep n s e t → Passes e t
unfolding hop
passive_passes n s e t is (sends l runs o ee et) = absurd (not_some s.owed l (owed_is s _ is) o)
passive_passes n s e t is (draws term round id es ee lo hi et) = (let p = sym (phase_is s _ is) ∙ phase_is s _ es in cc)
passive_passes n s e t is (passes term m es ee h et) =
    record { m = Message m; o = _; gets = ee; owes = owed_is t _ et; more = refl }
passive_passes n s e t is (gives_in term round id m es ee g h et) =
    record { m = Message m; o = _; gets = ee; owes = owed_is t _ et; more = refl }
passive_passes n s e t is (purges term round id m es ee g et) = (let p = sym (phase_is s _ is) ∙ phase_is s _ es in cc)
passive_passes n s e t is (meets term round id m es ee g h k et) =
    (let p = sym (phase_is s _ is) ∙ phase_is s _ es in cc)
passive_passes n s e t is (ties term round id m es ee g h d k et) =
    (let p = sym (phase_is s _ is) ∙ phase_is s _ es in cc)
passive_passes n s e t is (wins term round id m es ee g h d et) =
    (let p = sym (phase_is s _ is) ∙ phase_is s _ es in cc)
passive_passes n s e t is (yields l ee low et) = absurd (subst IsLeader (phase_is s _ is) l)
passive_passes n s e t is (restarts term h es ee below low et) =
    record { m = Reset h; o = _; gets = ee; owes = owed_is t _ et; more = refl }
passive_passes n s e t is (comes_home term es ee low et) = (let p = sym (phase_is s _ is) ∙ phase_is s _ es in cc)

pub first_passive : (b : Bool) → b ≡ false → first_state b ≡ free 1 Passive
first_passive b e = ap first_state e

no_first_step : (n : ℕ) (link : ℕ → List Load) (i : ℕ) (e : Event) (m : Load) → e ≡ Got m
    → LinkStep n i e (λ j. []) link → ⊥
no_first_step n link i e m is step =
    (let l = subst (λ (x : Event). LinkStep n i x (λ j. []) link) is step in let q = l.0 in cc)

pub no_run : (n : ℕ) (initiators : ℕ → Bool) (run : List (ℕ × Event)) (c : Configuration)
    → ((i : ℕ) → i < n → initiators i ≡ false) → Reaches n (beginning initiators) run c → run ≡ []
no_run n initiators [] c none reaches = refl
no_run n initiators (x ∷ run) c none reaches =
    let step : RingStep n x.0 x.1 (beginning initiators) reaches.0 = reaches.1 in
    let p = passive_passes n (first_state (initiators x.0)) x.1 (reaches.0.state x.0)
    (first_passive (initiators x.0) (none x.0 step.place)) step.node in
    absurd (no_first_step n reaches.0.link x.0 x.1 p.m p.gets step.links)

-- a run goes nowhere, or the election of each term is on, or past
pub none_or_on : (n : ℕ) (initiators : ℕ → Bool) (run : List (ℕ × Event)) (c : Configuration) → 2 ≤ n
    → Reaches n (beginning initiators) run c
    → (c ≡ beginning initiators) ⊎ ((term : ℕ) → 1 ≤ term → IsOnOrPast n term c)
none_or_on n initiators run c two reaches =
    elim (all_or_one (λ j. initiators j ≡ false) (λ j. initiators j ≡ true) n (λ j lj. initiator_or (initiators j))) [
      | inl none ↦ inl (subst (λ (r : List (ℕ × Event)). Reaches n (beginning initiators) r c)
          (no_run n initiators run c none reaches) reaches)
      | inr k ↦ inr (λ term one.
          run_on n term run (beginning initiators) c two reaches (begins_sound n initiators)
          (inl (begins_on n term initiators k.0 one k.1 k.2)))
    ]
