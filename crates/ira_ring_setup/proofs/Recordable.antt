-- The events of a walk are those that a log may hold.
use Rattle.std.proofs.Common.{◌≡◌, ℕ, ◌<◌, ◌≤◌, Bool, true, false, ◌&&◌, ◌||◌, not, inl, inr, List, [], ◌∷◌, ◌++◌}
use Rattle.std.proofs.Common.{length, refl, sym, ◌∙◌, subst, ap, append-nil, append_assoc, length-append, arith}
use Rattle.std.specs.Prelude.{nat_le, nat_lt, if◌then◌else◌}
use Rattle.std.specs.List.{list_all}
use Rattle.std.proofs.lemmas.Bool.{cases_eq}
use Rattle.std.proofs.lemmas.Bool.Decides.{nat_tests}
use Rattle.std.proofs.lemmas.List.Folds.{list_all-append}
use Rattle.std.specs.Cmp.Derive.{both_true}
use Rattle.ira_event.specs.Limits.{MAX_NODES, MAX_VERSION_1_NODES}
use Rattle.ira_event.specs.RingSize.{IsRingSize}
use Rattle.ira_event.specs.declared.event.Event.{Event}
use Rattle.ira_event.specs.declared.event.Event.TheVariants.{Draw, Sent, Got, Yield}
use Rattle.ira_event.specs.declared.load.Load.{Load}
use Rattle.ira_event.specs.Event.{is_number, is_event, is_later, is_of_version}
use Rattle.ira_event.proofs.Upgrades.{all_held}
use Rattle.ira_event.proofs.Numerals.{and_parts}
use Rattle.ira_node.specs.declared.node_state.NodeState.{NodeState}
use Rattle.ira_node.specs.NodeState.{first_state, is_state}
use Rattle.ira_node.specs.NodeStep.{NodeStep}
use Rattle.ira_node.specs.Plain.{is_plain}
use Rattle.ira_node.proofs.Inversions.{drawing_chooses, yielding_leads}
use Rattle.ira_node.proofs.Plain.{owes_no_reset, sends_no_reset}
use Rattle.ira_node.proofs.Ranges.{stays, sendings}
use Rattle.ira_order.specs.Ring.{prev}
use Rattle.ira_order.specs.Run.{Configuration, LinkStep, RingStep}
use Rattle.ira_order.proofs.Runs.{prev_below}
use Rattle.ira_safety.proofs.Steps.{term_rises}
use Rattle.ira_ring_setup.specs.Setup.{Setup, is_initiator, KeepsRules}
use Rattle.ira_ring_setup.specs.Terms.{version_of, IsLastLeader}
use Rattle.ira_ring_setup.specs.FullRun.{opening_of, events_at, Walks}
use Rattle.ira_ring_setup.proofs.Walks.{own_first, other_first, own_more, other_more}

-- ---- what steps keep

-- a fact of states and one of events. Where the first is of the state of a node that doesn't lead in the last term, the
-- other is of the
-- node's next event, and the first of the state after it; of a receipt only where the other is of it. The other is of
-- the
-- receipt of a load where it is of its sending
module _ (s : Setup) (fits : NodeState → Bool) (allows : Event → Bool)
    (carried : (l : Load) → allows (Sent l) ≡ allows (Got l))
    (keeps : (a : NodeState) (e : Event) (b : NodeState) → ¬ (IsLastLeader s.terms a) → fits a ≡ true
    → ((l : Load) → e ≡ Got l → allows e ≡ true) → NodeStep s.nodes a e b → (allows e ≡ true)
    × (fits b ≡ true)) where
  -- the receipt of each of these loads is allowed
  abbrev comes : List Load → Bool
  comes loads = list_all (λ l. allows (Got l)) loads

  -- so are the states, and what the links hold
  abbrev Fits : Configuration → Type 0
  Fits c = ((i : ℕ) → i < s.nodes → fits (c.state i) ≡ true) × ((k : ℕ) → k < s.nodes → comes (c.link k) ≡ true)

  -- a load that is received was on the link
  receipt_allowed : (i : ℕ) (e : Event) (l : Load) (old new : ℕ → List Load) → i < s.nodes
      → ((k : ℕ) → k < s.nodes → comes (old k) ≡ true) → LinkStep s.nodes i e old new → e ≡ Got l → allows e ≡ true
  receipt_allowed i e l old new here all step is =
      let P : Event → Type 0 = λ x. LinkStep s.nodes i x old new in
      let taken : LinkStep s.nodes i (Got l) old new = subst P is step in
      let h : comes (l ∷ new (prev s.nodes i)) ≡ true =
      subst (λ (x : List Load). comes x ≡ true) taken.0 (all (prev s.nodes i) (prev_below s.nodes i here)) in
      ap allows is ∙ (and_parts (allows (Got l)) (comes (new (prev s.nodes i))) h).0

  links_fit : (i : ℕ) (e : Event) (old new : ℕ → List Load) → i < s.nodes → allows e ≡ true
      → ((k : ℕ) → k < s.nodes → comes (old k) ≡ true) → LinkStep s.nodes i e old new → (k : ℕ) → k < s.nodes
      → comes (new k) ≡ true
  links_fit i (Draw id) old new here event all step k lk =
      subst (λ (x : List Load). comes x ≡ true) (sym (step k lk)) (all k lk)
  links_fit i Yield old new here event all step k lk =
      subst (λ (x : List Load). comes x ≡ true) (sym (step k lk)) (all k lk)
  links_fit i (Sent l) old new here event all step k lk = elim (cases_eq k i) [
    | inl e ↦
        let P : ℕ → Type 0 = λ x. comes (new x) ≡ true in
        let one : comes (l ∷ []) ≡ true = both_true (sym (carried l) ∙ event) refl in
        let whole : comes (old i ++ l ∷ []) ≡ true =
        list_all-append (λ x. allows (Got x)) (old i) (l ∷ []) ∙ both_true (all i here) one in
        subst P (sym e) (subst (λ (x : List Load). comes x ≡ true) (sym step.0) whole)
    | inr ne ↦ subst (λ (x : List Load). comes x ≡ true) (sym (step.1 k lk ne)) (all k lk)
  ]
  links_fit i (Got l) old new here event all step k lk = elim (cases_eq k (prev s.nodes i)) [
    | inl e ↦
        let P : ℕ → Type 0 = λ x. comes (new x) ≡ true in
        let h : comes (l ∷ new (prev s.nodes i)) ≡ true =
        subst (λ (x : List Load). comes x ≡ true) step.0 (all (prev s.nodes i) (prev_below s.nodes i here)) in
        subst P (sym e) (and_parts (allows (Got l)) (comes (new (prev s.nodes i))) h).1
    | inr ne ↦ subst (λ (x : List Load). comes x ≡ true) (sym (step.1 k lk ne)) (all k lk)
  ]

  step_allowed : (i : ℕ) (e : Event) (c d : Configuration) → ¬ (IsLastLeader s.terms (c.state i)) → Fits c
      → RingStep s.nodes i e c d → (allows e ≡ true) × Fits d
  step_allowed i e c d runs all step =
      let kept = keeps (c.state i) e (d.state i) runs (all.0 i step.place) (λ l is.
      receipt_allowed i e l c.link d.link step.place all.1 step.links is) step.node in (
        kept.0,
        (
          λ j l. elim (cases_eq j i) [
            | inl q ↦ let P : ℕ → Type 0 = λ k. fits (d.state k) ≡ true in subst P (sym q) kept.1
            | inr ne ↦ subst (λ (x : NodeState). fits x ≡ true) (sym (step.others j l ne)) (all.0 j l)
          ],
          links_fit i e c.link d.link step.place kept.0 all.1 step.links,
        ),
      )

  -- so all events of a walk are allowed
  walk_allowed : (past : List (ℕ × Event)) (c : Configuration) (run : List (ℕ × Event)) (d : Configuration) (i : ℕ)
      → Fits c → Walks s past c run d → list_all allows (events_at run i) ≡ true
  walk_allowed past c [] d i all walk = refl
  walk_allowed past c (x ∷ run) d i all walk =
      let here = step_allowed x.0 x.1 c walk.1.0 walk.0.not_last all walk.1.1 in
      let rest : list_all allows (events_at run i) ≡ true =
      walk_allowed (past ++ x ∷ []) walk.1.0 run d i here.1 walk.1.2 in
      let P : List Event → Type 0 = λ es. list_all allows es ≡ true in
      elim (cases_eq x.0 i) [
        | inl e ↦ subst P (sym (own_first x run i e)) (both_true here.0 rest)
        | inr ne ↦ subst P (sym (other_first x run i ne)) rest
      ]

  run_allowed : ((b : Bool) → fits (first_state b) ≡ true) → (run : List (ℕ × Event)) (d : Configuration) (i : ℕ)
      → Walks s [] (opening_of s) run d → list_all allows (events_at run i) ≡ true
  run_allowed first run d i walk =
      walk_allowed [] (opening_of s) run d i ((λ j l. first (is_initiator s j)), (λ k l. refl)) walk

-- ---- a log may hold the numbers

id_is_number : (n id : ℕ) → n ≤ MAX_NODES → 1 ≤ id → id ≤ n → is_number id ≡ true
id_is_number n id few low high = grind (arith, nat_tests)

draw_is_number : (n : ℕ) (s t : NodeState) (x : ℕ) → n ≤ MAX_NODES → NodeStep n s (Draw x) t → is_number x ≡ true
draw_is_number n s t x few step = let before = drawing_chooses n s t x step in id_is_number n x few before.3 before.4

event_recordable : (n : ℕ) (a : NodeState) (e : Event) (b : NodeState) → IsRingSize n → is_state a ≡ true
    → ((l : Load) → e ≡ Got l → is_event e ≡ true) → NodeStep n a e b → is_event e ≡ true
event_recordable n a (Draw id) b size fit taken step = draw_is_number n a b id size.1 step
event_recordable n a (Sent l) b size fit taken step = sendings n a l b fit step
event_recordable n a (Got l) b size fit taken step = taken l refl
event_recordable n a Yield b size fit taken step = refl

first_recordable : (b : Bool) → is_state (first_state b) ≡ true
first_recordable true = refl
first_recordable false = refl

pub run_recordable : (s : Setup) (run : List (ℕ × Event)) (d : Configuration) (i : ℕ) → KeepsRules s
    → Walks s [] (opening_of s) run d → list_all is_event (events_at run i) ≡ true
run_recordable s run d i rules walk =
    run_allowed s is_state is_event (λ l. refl)
    (λ a e b runs fit taken step.
    let event : is_event e ≡ true = event_recordable s.nodes a e b rules.size fit taken step in
    (event, stays s.nodes a e b rules.size fit event step))
    first_recordable run d i walk

-- ---- a log of version 1 may hold the events

one_term : (terms : ℕ) → 1 ≤ terms → nat_lt 1 terms ≡ false → terms ≡ 1
one_term terms some none = grind (arith, nat_tests)

no_later : (e : Event) → is_of_version 1 e ≡ true → is_later e ≡ false
no_later e h = by_test (is_later e) h
  where
    by_test : (b : Bool) → (not b || false) ≡ true → b ≡ false
    by_test true h = absurd cc
    by_test false h = refl

-- in a run of one term no node yields: it would lead in the last term, or before the first
event_of_version : (n : ℕ) (a : NodeState) (e : Event) (b : NodeState) → ¬ (IsLastLeader 1 a) → is_plain a.owed ≡ true
    → nat_le 1 a.term ≡ true → ((l : Load) → e ≡ Got l → is_of_version 1 e ≡ true) → NodeStep n a e b
    → is_of_version 1 e ≡ true
event_of_version n a (Draw id) b runs fit term taken step = refl
event_of_version n a (Sent l) b runs fit term taken step = rw (sends_no_reset n a l b fit step) refl
event_of_version n a (Got l) b runs fit term taken step = taken l refl
event_of_version n a Yield b runs fit term taken step = absurd (runs (yielding_leads n a b step, by_test 1 a.term term))
  where
    by_test : (m n : ℕ) → nat_le m n ≡ true → m ≤ n
    by_test m n h = grind (arith, nat_tests)

first_plain : (b : Bool) → (is_plain (first_state b).owed && nat_le 1 (first_state b).term) ≡ true
first_plain true = refl
first_plain false = refl

-- no step leads to a term before the first
term_stays : (n : ℕ) (a : NodeState) (e : Event) (b : NodeState) → NodeStep n a e b → nat_le 1 a.term ≡ true
    → nat_le 1 b.term ≡ true
term_stays n a e b step h = by_test a.term b.term (term_rises n a e b step) h
  where
    by_test : (m n : ℕ) → m ≤ n → nat_le 1 m ≡ true → nat_le 1 n ≡ true
    by_test m n l h = grind (arith, nat_tests)

of_first_version : (s : Setup) (run : List (ℕ × Event)) (d : Configuration) (i : ℕ) → s.terms ≡ 1
    → Walks s [] (opening_of s) run d → list_all (is_of_version 1) (events_at run i) ≡ true
of_first_version s run d i one walk =
    run_allowed s (λ a. is_plain a.owed && nat_le 1 a.term) (is_of_version 1) (λ l. refl)
    (λ a e b runs fit taken step.
    let parts = and_parts (is_plain a.owed) (nat_le 1 a.term) fit in
    let not_last : ¬ (IsLastLeader 1 a) = λ l. runs (l.0, omega (arith, l.1, one)) in
    let event : is_of_version 1 e ≡ true = event_of_version s.nodes a e b not_last parts.0 parts.1 taken step in
    (event, both_true (owes_no_reset s.nodes a e b (no_later e event) step) (term_stays s.nodes a e b step parts.1)))
    first_plain run d i walk

-- the log of each node of a run may hold its events
pub run_of_version : (s : Setup) (run : List (ℕ × Event)) (d : Configuration) (i : ℕ) → KeepsRules s
    → Walks s [] (opening_of s) run d → list_all (is_of_version (version_of s.nodes s.terms)) (events_at run i) ≡ true
run_of_version s run d i rules walk = by_tests (nat_lt 1 s.terms) (nat_lt MAX_VERSION_1_NODES s.nodes) refl
  where
    by_tests : (more large : Bool) → nat_lt 1 s.terms ≡ more
        → list_all (is_of_version (if more || large then 2 else 1)) (events_at run i) ≡ true
    by_tests true large h = all_held (events_at run i)
    by_tests false true h = all_held (events_at run i)
    by_tests false false h = of_first_version s run d i (one_term s.terms rules.terms.0 h) walk

-- ---- no node makes more events than the cap

few_events : (s : Setup) (past : List (ℕ × Event)) (c : Configuration) (run : List (ℕ × Event)) (d : Configuration)
    (i : ℕ) → length (events_at past i) ≤ s.cap → Walks s past c run d → length (events_at (past ++ run) i) ≤ s.cap
few_events s past c [] d i few walk =
    subst (λ (xs : List (ℕ × Event)). length (events_at xs i) ≤ s.cap) (sym (append-nil past)) few
few_events s past c (x ∷ run) d i few walk =
    let P : List (ℕ × Event) → Type 0 = λ xs. length (events_at xs i) ≤ s.cap in
    let more : length (events_at (past ++ x ∷ []) i) ≤ s.cap = elim (cases_eq x.0 i) [
      | inl e ↦
          let Q : ℕ → Type 0 = λ j. length (events_at past j) < s.cap in
          let room : length (events_at past i) < s.cap = subst Q e walk.0.below_cap in
          omega (arith, room, ap length (own_more past x.0 i x.1 e), length-append (events_at past i) (x.1 ∷ []))
      | inr ne ↦ omega (arith, few, ap length (other_more past x.0 i x.1 ne))
    ] in
    subst P (append_assoc past (x ∷ []) run) (few_events s (past ++ x ∷ []) walk.1.0 run d i more walk.1.2)

pub run_within : (s : Setup) (run : List (ℕ × Event)) (d : Configuration) (i : ℕ) → Walks s [] (opening_of s) run d
    → length (events_at run i) ≤ s.cap
run_within s run d i walk = few_events s [] (opening_of s) run d i (omega arith) walk
