-- At most one node leads in a term.
use Rattle.std.proofs.Common.{◌≡◌, ◌≢◌, ℕ, zero, suc, ◌+◌, ◌-◌, ◌<◌, ◌≤◌, ◌⊎◌, inl, inr, Bool, true, false, Some, None}
use Rattle.std.proofs.Common.{List, length, refl, sym, ◌∙◌, ap, subst, arith}
use Rattle.std.specs.Prelude.{slice_get}
use Rattle.std.proofs.lemmas.Bool.{cases_lt, cases_eq}
use Rattle.std.proofs.lemmas.Bool.Decides.{nat_tests}
use Rattle.std.proofs.lemmas.Option.{slice_get_cases, slice_get_within}
use Rattle.ira_event.specs.declared.msg.Msg.{Msg}
use Rattle.ira_event.specs.declared.load.Load.{Load}
use Rattle.ira_event.specs.declared.load.Load.TheVariants.{Msg as Message}
use Rattle.ira_event.specs.declared.event.Event.{Event}
use Rattle.ira_event.specs.declared.event.Event.TheVariants.{Sent, Got}
use Rattle.ira_event.specs.Log.{Log}
use Rattle.ira_node.specs.declared.phase.Phase.{Phase}
use Rattle.ira_node.specs.declared.phase.Phase.TheVariants.{Choosing, Active, Passive, Leader, Yielding}
use Rattle.ira_node.specs.declared.node_state.NodeState.{NodeState}
use Rattle.ira_node.specs.NodeState.{IsLeader, first_state}
use Rattle.ira_node.proofs.Inversions.{sending_owes}
use Rattle.ira_order.specs.Before.{message}
use Rattle.ira_order.specs.Cut.{HoldsAllBefore}
use Rattle.ira_order.specs.Matching.{Matches}
use Rattle.ira_order.specs.Ring.{log_of, next}
use Rattle.ira_order.proofs.Ranks.{next_below}
use Rattle.ira_order.proofs.Runs.{next_up}
use Rattle.ira_safety.proofs.Course.{IsCourse, kept, settled, term_counted, sent_counted}
use Rattle.ira_safety.proofs.Sendings.{HasSending, has_sending}
use Rattle.ira_safety.proofs.Steps.{resets, yielding, Settled, message_owed, won, IsStill, IsDone, leader_led, stays}
use Rattle.ira_safety.proofs.Steps.{stays_done}

pub first_owes : (initiator : Bool) → (first_state initiator).owed ≡ None
first_owes true = refl
first_owes false = refl

-- a settled node that owes a message did not yield
runs : (phase : Phase) (m : Msg) → Settled phase (Some (Message m)) → yielding phase ≡ 0
runs (Choosing round) m h = refl
runs (Active round id) m h = refl
runs Passive m h = refl
runs (Leader round id) m h = refl
runs Yielding m h = absurd (h m refl)

-- a node that was passive in a term does not lead in it
not_both : (term : ℕ) (s : NodeState) → IsStill term Passive s → IsLeader s.phase → s.term ≡ term → ⊥
not_both term s (inl past) leads at = omega arith
not_both term s (inr h) leads at = rw (h.1) at leads

not_done : (term : ℕ) (s : NodeState) → IsDone term s → s.phase ≡ Passive → s.term ≡ term → ⊥
not_done term s (inl past) passive at = omega arith
not_done term s (inr h) passive at = rw passive at (h.1)

pub next_home : (n j : ℕ) → n ≤ j + 1 → next n j ≡ 0
next_home n j top = grind (arith, nat_tests)

module _ (logs : List Log) (st : ℕ → ℕ → NodeState)
    (courses : (i : ℕ) → IsCourse (length logs) (log_of logs i) (st i))
    (matches : Matches logs) where
  -- the event before which the node came to owe what it sends
  pub record Owing (i a : ℕ) (l : Load) : Type 0 where
    pub before : ℕ
    pub number : a ≡ suc before
    pub event : Event
    pub at : slice_get (log_of logs i) before ≡ Some event
    pub owes : (st i a).owed ≡ Some l

  pub owing : (i a : ℕ) (l : Load) → slice_get (log_of logs i) a ≡ Some (Sent l) → Owing i a l
  owing i zero l at =
      let o : (st i 0).owed ≡ Some l =
      sending_owes (length logs) (st i 0) (st i 1) l ((courses i).steps 0 (Sent l) at) in
      let none : (st i 0).owed ≡ None =
      ap (λ (x : NodeState). x.owed) (courses i).first ∙ first_owes (courses i).initiator in
      absurd (let z : ⊥ = cc in z)
  owing i (suc a) l at =
      let within : suc a < length (log_of logs i) = slice_get_within (log_of logs i) (suc a) (Sent l) at in
      elim (slice_get_cases (log_of logs i) a).1 [
        | inl more ↦ record {
          before = a;
          number = refl;
          event = more.0;
          at = more.2;
          owes = sending_owes (length logs) (st i (suc a)) (st i (suc (suc a))) l
              ((courses i).steps (suc a) (Sent l) at);
        }
        | inr end ↦ absurd (omega (arith, end.0))
      ]

  -- after its first a events node i leads in the term. Before that, so within each consistent cut that holds these,
  -- node j
  -- received a clean message of so many hops, d nodes short of the whole way
  record Passed (term i a j d : ℕ) : Type 0 where
    b : ℕ
    message : Msg
    gets : slice_get (log_of logs j) b ≡ Some (Got (Message message))
    hop : message.hop + d ≡ length logs
    clean : message.dirty ≡ false
    in_term : (st j b).term ≡ term
    held : (at : ℕ → ℕ) → HoldsAllBefore logs at → a ≤ at i → suc b ≤ at j

  -- so the node before it passed it on, and was passive then
  before_it : (term i a j d : ℕ) → j < length logs → d + 1 < length logs → Passed term i a (next (length logs) j) d
      → (p : Passed term i a j (suc d)) × ((st j (suc p.b)).phase ≡ Passive) × ((st j (suc p.b)).term ≡ term)
  before_it term i a j d here short p =
      let s : HasSending logs j p.b (Message p.message) =
      has_sending logs j p.b (Message p.message) matches here p.gets in
      let o : Owing j s.a (Message p.message) = owing j s.a (Message p.message) s.sends in
      let counted = term_counted (length logs) (log_of logs (next (length logs) j)) (st (next (length logs) j))
      (courses (next (length logs) j)) p.b (omega (
        arith,
        slice_get_within (log_of logs (next (length logs) j)) p.b (Got (Message p.message)) p.gets,
      )) in
      let balanced = rw o.owes at
      (sent_counted (length logs) (log_of logs j) (st j) (courses j) s.a
      (omega (arith, slice_get_within (log_of logs j) s.a (Sent (Message p.message)) s.sends))) in
      let still : yielding (st j s.a).phase ≡ 0 =
      runs (st j s.a).phase p.message (rw o.owes at (settled (length logs) (log_of logs j) (st j) (courses j) s.a))
      in
      let same : (st j s.a).term ≡ term = omega (arith, counted, balanced, still, ap resets s.before, p.in_term) in
      let owes : (st j (suc o.before)).owed ≡ Some (Message p.message) = rw o.number at o.owes in
      let m = message_owed (length logs) (st j o.before) o.event (st j (suc o.before)) p.message
      ((courses j).steps o.before o.event o.at) owes p.clean (omega (arith, p.hop)) in
      let now : (st j (suc o.before)).term ≡ term = rw o.number at same in (
        record {
          b = o.before;
          message = m.0;
          gets = o.at ∙ ap Some m.1;
          hop = omega (arith, p.hop, ap (λ (x : Msg). x.hop) m.2);
          clean = sym (ap (λ (x : Msg). x.dirty) m.2) ∙ p.clean;
          in_term = sym m.4 ∙ now;
          held = λ at consistent low.
              (let h : suc s.a ≤ at j = consistent j (suc s.a) (next (length logs) j) (suc p.b) (message refl s.pair)
              (p.held at consistent low) in omega (arith, h, o.number));
        },
        m.3,
        now,
      )

  -- d nodes before node i
  abbrev IsBack : ℕ → ℕ → ℕ → Type 0
  IsBack i j d = (j + d ≡ i) ⊎ (j + d ≡ i + length logs)

  next_back : (i j d : ℕ) → i < length logs → j < length logs → IsBack i j (suc d) → IsBack i (next (length logs) j) d
  next_back i j d li lj h = elim (cases_lt (j + 1) (length logs)) [
    | inl more ↦ elim h [
      | inl e ↦ inl (omega (arith, next_up (length logs) j more))
      | inr e ↦ inr (omega (arith, next_up (length logs) j more))
    ]
    | inr top ↦ elim h [
      | inl e ↦ absurd (omega arith)
      | inr e ↦ inl (omega (arith, next_home (length logs) j top))
    ]
  ]

  all_passed : (term i a : ℕ) → i < length logs → Passed term i a i 0 → (d j : ℕ) → d < length logs → j < length logs
      → IsBack i j d → Passed term i a j d
  all_passed term i a li p zero j short lj back =
      (let same : i ≡ j = elim back [ inl e ↦ omega arith | inr e ↦ absurd (omega arith) ] in
      subst (λ x. Passed term i a x 0) same p)
  all_passed term i a li p (suc d) j short lj back =
      (before_it term i a j d lj (omega arith)
      (all_passed term i a li p d (next (length logs) j) (omega arith) (next_below (length logs) j lj)
      (next_back i j d li lj back))).0

  -- how a node came to lead
  came : (i a : ℕ) → IsLeader (st i a).phase → Passed (st i a).term i a i 0
  came i zero leads = absurd (no_first (courses i).initiator (rw (courses i).first at leads))
    where
      no_first : (initiator : Bool) → IsLeader (first_state initiator).phase → ⊥
      no_first true l = l
      no_first false l = l
  came i (suc a) leads = elim (slice_get_cases (log_of logs i) a).1 [
    | inl more ↦
        let w = won (length logs) (st i a) more.0 (st i (suc a)) ((courses i).steps a more.0 more.2) leads in
        record {
          b = a;
          message = w.0;
          gets = more.2 ∙ ap Some w.1;
          hop = omega (arith, w.2);
          clean = w.3;
          in_term = sym w.4;
          held = λ at consistent low. low;
        }
    | inr end ↦
        let same : st i (suc a) ≡ st i a = (courses i).ends a end.0 in
        let p : Passed (st i a).term i a i 0 = came i a (rw same at leads) in
        record {
          b = p.b;
          message = p.message;
          gets = p.gets;
          hop = p.hop;
          clean = p.clean;
          in_term = p.in_term ∙ ap (λ (x : NodeState). x.term) (sym same);
          held =
              λ at consistent low. p.held at consistent (omega arith);
        }
  ]

  -- after some of its events node j is passive in the term, within each consistent cut at which node i leads
  pub record IsPassiveBefore (term i a j : ℕ) : Type 0 where
    pub b : ℕ
    pub passive : (st j b).phase ≡ Passive
    pub in_term : (st j b).term ≡ term
    pub held : (at : ℕ → ℕ) → HoldsAllBefore logs at → a ≤ at i → b ≤ at j

  passive_there : (term i a : ℕ) → i < length logs → Passed term i a i 0 → (d j : ℕ) → d + 1 < length logs
      → j < length logs → IsBack i j (suc d) → IsPassiveBefore term i a j
  passive_there term i a li p d j short lj back =
      let r = before_it term i a j d lj short
      (all_passed term i a li p d (next (length logs) j) (omega arith) (next_below (length logs) j lj)
      (next_back i j d li lj back)) in
      record { b = suc r.0.b; passive = r.1; in_term = r.2; held = r.0.held }

  pub passive_before : (i a j : ℕ) → i < length logs → j < length logs → i ≢ j → IsLeader (st i a).phase
      → IsPassiveBefore (st i a).term i a j
  passive_before i a j li lj ne leads = elim (cases_lt j i) [
    | inl before ↦ passive_there (st i a).term i a li (came i a leads) (i - j - 1) j (omega arith) lj
        (inl (omega arith))
    | inr past ↦ passive_there (st i a).term i a li (came i a leads) (i + length logs - j - 1) j (omega arith) lj
        (inr (omega arith))
  ]

  not_passive : (term j a b : ℕ) → (st j b).phase ≡ Passive → (st j b).term ≡ term → IsLeader (st j a).phase
      → (st j a).term ≡ term → ⊥
  not_passive term j a b passive at leads in_term = elim (cases_lt a b) [
    | inl later ↦ not_done term (st j b)
        (kept (length logs) (log_of logs j) (st j) (courses j) (IsDone term) (λ s e t step h.
        stays_done (length logs) term s e t step h) a b (omega arith) (inr (in_term, leader_led (st j a).phase leads)))
        passive at
    | inr before ↦ not_both term (st j a)
        (kept (length logs) (log_of logs j) (st j) (courses j) (IsStill term Passive) (λ s e t step h.
        stays (length logs) term Passive s e t tt step h) b a before (inr (at, passive))) leads in_term
  ]

  pub one_leader : (i a j b : ℕ) → i < length logs → j < length logs → IsLeader (st i a).phase → IsLeader (st j b).phase
      → (st i a).term ≡ (st j b).term → i ≡ j
  one_leader i a j b li lj x y same = elim (cases_eq i j) [
    | inl one ↦ one
    | inr ne ↦
        let r = passive_before i a j li lj ne x in
        absurd (not_passive (st i a).term j b r.b r.passive r.in_term y (sym same))
  ]
