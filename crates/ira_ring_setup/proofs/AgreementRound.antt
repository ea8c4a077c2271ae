-- Round the ring: what was recorded goes no further than a full run in which some node ended otherwise than Quiet.
use Rattle.std.proofs.Common.{◌≡◌, ℕ, zero, suc, ◌-◌, ◌<◌, ◌≤◌, inl, inr, List, [], ◌∷◌, ◌++◌, length, sym, ◌∙◌, subst}
use Rattle.std.proofs.Common.{ap, append-nil, append_assoc, length-append, arith}
use Rattle.std.proofs.lemmas.List.Elements.{filter_map-append}
use Rattle.ira_event.specs.declared.load.Load.{Load}
use Rattle.ira_event.specs.declared.event.Event.{Event}
use Rattle.ira_event.specs.declared.event.Event.TheVariants.{Draw, Got, Yield}
use Rattle.ira_node.specs.declared.node_state.NodeState.{NodeState}
use Rattle.ira_node.specs.NodeState.{first_state}
use Rattle.ira_node.specs.NodeStep.{NodeStep, HasStep}
use Rattle.ira_node.proofs.Wants.{choosing_draws, waiting_receives, leading_yields}
use Rattle.ira_replay.specs.LocalRun.{LeadsTo}
use Rattle.ira_replay.proofs.Alike.{one_end, leads_split}
use Rattle.ira_order.specs.Ring.{prev}
use Rattle.ira_order.specs.Matching.{receipt, got}
use Rattle.std.proofs.lemmas.Bool.{cases_eq}
use Rattle.ira_ring_setup.specs.declared.node_end.NodeEnd.{NodeEnd}
use Rattle.ira_ring_setup.specs.declared.node_end.NodeEnd.TheVariants.{Leader, Stopped, DrawsSpent, LogFull, NoStep, Quiet}
use Rattle.ira_ring_setup.specs.Setup.{Setup, is_initiator, node_draws}
use Rattle.ira_ring_setup.specs.Terms.{YieldsBelow}
use Rattle.ira_event.specs.Messages.{drawing, drawn}
use Rattle.ira_ring_setup.specs.FullRun.{BeginsWith}
use Rattle.ira_ring_setup.specs.ShownEnd.{Says}
use Rattle.ira_ring_setup.proofs.Beginnings.{next_same}
use Rattle.ira_ring_setup.proofs.Yields.{yields_at}

-- ---- round the ring

-- what is true of a place, and of each place where it is of the one before, is true of all
module _ (n : ℕ) (P : ℕ → Type 0) (round : (i : ℕ) → i < n → P (prev n i) → P i) where
  onward : (i j : ℕ) → i ≤ j → j < n → P i → P j
  onward i zero l here p = subst P (omega arith) p
  onward i (suc j) l here p = elim (cases_eq i (suc j)) [
    | inl e ↦ subst P e p
    | inr ne ↦ round (suc j) here (onward i j (omega arith) (omega arith) p)
  ]

  pub all_round : (i j : ℕ) → i < n → j < n → P i → P j
  all_round i j here there p =
      onward 0 j (omega arith) there (round 0 (omega arith) (onward i (n - 1) (omega arith) (omega arith) p))

-- ---- a node goes no further

-- a node that ends so waits for a load
abbrev pub IsWaiting : NodeEnd → Type 0
IsWaiting Leader = ⊥
IsWaiting Stopped = Unit {0}
IsWaiting DrawsSpent = ⊥
IsWaiting LogFull = ⊥
IsWaiting (NoStep m) = ⊥
IsWaiting Quiet = Unit {0}

-- node i, to which these loads were sent in all, made these events, and then others of its log, whose yields are in
-- terms before the last; the input begins the loads
module _ (s : Setup) (i : ℕ) (log events : List Event) (state last : NodeState) (sendings input : List Load)
    (leads : LeadsTo s.nodes (first_state (is_initiator s i)) events state)
    (run : LeadsTo s.nodes (first_state (is_initiator s i)) log last)
    (count : length log ≤ s.cap)
    (below : YieldsBelow s.terms s.nodes (first_state (is_initiator s i)) log)
    (draws : BeginsWith (node_draws s i) (drawn log))
    (receipts : BeginsWith sendings (got log))
    (more : BeginsWith sendings input) where
  -- the next event of the log has a step
  next_step : (e : Event) (rest : List Event) → log ≡ events ++ e ∷ rest → HasStep s.nodes state e
  next_step e rest is =
      let P : List Event → Type 0 = λ es. LeadsTo s.nodes (first_state (is_initiator s i)) es last in
      let parts = leads_split s.nodes (first_state (is_initiator s i)) events (e ∷ rest) last (subst P is run) in
      let Q : NodeState → Type 0 = λ x. NodeStep s.nodes x e parts.2.0 in (
        parts.2.0,
        subst Q (one_end s.nodes (first_state (is_initiator s i)) events parts.0 state parts.1 leads)
            parts.2.1,
      )

  no_draw : (d : ℕ) (rest : List Event) → drawn events ≡ node_draws s i → log ≡ events ++ Draw d ∷ rest → ⊥
  no_draw d rest spent is =
      omega (
        arith,
        ap length draws.1,
        length-append (drawn log) draws.0,
        ap (λ (x : List Event). length (drawn x)) is,
        ap length (filter_map-append drawing events (Draw d ∷ rest)),
        length-append (drawn events) (d ∷ drawn rest),
        ap length spent,
      )

  received : (m : Load) (rest : List Event) → log ≡ events ++ Got m ∷ rest
      → sendings ≡ got events ++ m ∷ (got rest ++ receipts.0)
  received m rest is =
      receipts.1 ∙ ap (λ (x : List Event). got x ++ receipts.0) is
      ∙ ap (λ (x : List Load). x ++ receipts.0) (filter_map-append receipt events (Got m ∷ rest))
      ∙ append_assoc (got events) (m ∷ got rest) receipts.0

  no_receipt : (m : Load) (rest : List Event) → sendings ≡ input → got events ≡ input → log ≡ events ++ Got m ∷ rest → ⊥
  no_receipt m rest all same is =
      omega (
        arith,
        ap length (received m rest is),
        length-append (got events) (m ∷ (got rest ++ receipts.0)),
        ap length all,
        ap length same,
      )

  same_load : (m k : Load) (rest : List Event) → BeginsWith input (got events ++ k ∷ []) → log ≡ events ++ Got m ∷ rest
      → m ≡ k
  same_load m k rest front is =
      let there : sendings ≡ got events ++ k ∷ (front.0 ++ more.0) =
      more.1 ∙ ap (λ (x : List Load). x ++ more.0) (front.1 ∙ append_assoc (got events) (k ∷ []) front.0)
      ∙ append_assoc (got events) (k ∷ front.0) more.0 in
      next_same (got events) (got rest ++ receipts.0) (front.0 ++ more.0) m k (sym (received m rest is) ∙ there)

  -- a yield that comes next is in a term before the last
  yields_low : (rest : List Event) → log ≡ events ++ Yield ∷ rest → state.term < s.terms
  yields_low rest is =
      let P : List Event → Type 0 = λ es. YieldsBelow s.terms s.nodes (first_state (is_initiator s i)) es in
      yields_at s.terms s.nodes (first_state (is_initiator s i)) events rest state leads (subst P is below)

  over : (end : NodeEnd) (e : Event) (rest : List Event) → (IsWaiting end → sendings ≡ input)
      → Says s i state events input end → log ≡ events ++ e ∷ rest → HasStep s.nodes state e → ⊥
  over Leader e rest waits says is step =
      omega (
        arith,
        says.1,
        yields_low rest (is
            ∙ ap (λ (x : Event). events ++ x ∷ rest) (leading_yields s.nodes state e says.0 step)),
      )
  over LogFull e rest waits says is step = omega (arith, count, ap length is, length-append events (e ∷ rest), says.1)
  over DrawsSpent e rest waits says is step =
      let d = choosing_draws s.nodes says.1.0 says.1.1 state e says.1.2 step in
      no_draw d.0 rest says.2 (is ∙ ap (λ (x : Event). events ++ x ∷ rest) d.1)
  over (NoStep k) e rest waits says is step =
      let m = waiting_receives s.nodes state e says.0.1 says.0.2 step in
      let same : m.0 ≡ k = same_load m.0 k rest says.2 (is ∙ ap (λ (x : Event). events ++ x ∷ rest) m.1) in
      let P : Event → Type 0 = λ x. HasStep s.nodes state x in
      says.1 (subst P (m.1 ∙ ap Got same) step)
  over Quiet e rest waits says is step =
      let m = waiting_receives s.nodes state e says.0.1 says.0.2 step in
      no_receipt m.0 rest (waits tt) says.1 (is ∙ ap (λ (x : Event). events ++ x ∷ rest) m.1)
  over Stopped e rest waits says is step =
      let m = waiting_receives s.nodes state e says.0.1 says.0.2 step in
      no_receipt m.0 rest (waits tt) says.1 (is ∙ ap (λ (x : Event). events ++ x ∷ rest) m.1)

  -- where the end of a node that waits has all the loads before it, the events are all of the log
  pub no_further : (end : NodeEnd) (rest : List Event) → (IsWaiting end → sendings ≡ input)
      → Says s i state events input end → log ≡ events ++ rest → log ≡ events
  no_further end [] waits says is = is ∙ append-nil events
  no_further end (e ∷ rest) waits says is = absurd (over end e rest waits says is (next_step e rest is))
