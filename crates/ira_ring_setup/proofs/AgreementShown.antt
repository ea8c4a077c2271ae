-- The logs of a full run show an end of each node.
use Rattle.std.proofs.Common.{◌≡◌, ◌≢◌, ℕ, zero, suc, ◌<◌, ◌≤◌, inl, inr, Option, None, Some, List, [], ◌∷◌, ◌++◌}
use Rattle.std.proofs.Common.{length, refl, sym, ◌∙◌, subst, ap, append-nil, append_assoc, length-append, arith}
use Rattle.std.specs.Prelude.{slice_get}
use Rattle.ira_event.specs.declared.load.Load.{Load}
use Rattle.ira_event.specs.declared.event.Event.{Event}
use Rattle.ira_event.specs.Log.{Log}
use Rattle.ira_node.specs.declared.phase.Phase.{Phase}
use Rattle.ira_node.specs.declared.phase.Phase.TheVariants.{Choosing, Active, Passive, Leader as Leads, Yielding}
use Rattle.ira_node.specs.declared.node_state.NodeState.{NodeState}
use Rattle.ira_node.specs.NodeState.{first_state, free}
use Rattle.ira_replay.specs.LocalRun.{LeadsTo}
use Rattle.ira_order.specs.Ring.{prev, log_of}
use Rattle.ira_order.specs.Matching.{sent, got}
use Rattle.std.proofs.lemmas.Bool.{cases_lt}
use Rattle.ira_order.proofs.Runs.{prev_below}
use Rattle.ira_ring_setup.specs.declared.node_end.NodeEnd.{NodeEnd}
use Rattle.ira_ring_setup.specs.declared.node_end.NodeEnd.TheVariants.{Leader, Stopped, DrawsSpent, LogFull, NoStep, Quiet}
use Rattle.ira_ring_setup.specs.Setup.{Setup, is_initiator, node_draws}
use Rattle.ira_ring_setup.specs.Terms.{IsLastLeader}
use Rattle.ira_event.specs.Messages.{drawn}
use Rattle.ira_ring_setup.specs.FullRun.{events_at, HasEvent, yields, owes, chooses, receives, BeginsWith, AreFullLogs}
use Rattle.ira_ring_setup.specs.ShownEnd.{Waits, Says, IsShown, IsLoneRun}
use Rattle.ira_ring_setup.proofs.Agreement.{IsEnded, full_run_ended}
use Rattle.ira_ring_setup.proofs.Recordable.{run_within}

-- ---- the end of one node

-- node i made these events, received the first of these loads, and can't go on from this state
module _ (s : Setup) (i : ℕ) (events : List Event) (input : List Load)
    (draws : BeginsWith (node_draws s i) (drawn events)) where
  abbrev Stays : NodeState → List Load → Type 0
  Stays state left = ¬ (IsLastLeader s.terms state) → length events < s.cap
      → ¬ (HasEvent s.nodes s.terms (node_draws s i) state events left)

  -- it has an end
  abbrev Shows : NodeState → Type 0
  Shows state = (end : NodeEnd) × Says s i state events input end × (end ≢ Stopped)

  all_drawn : (ids : List ℕ) → node_draws s i ≡ drawn events ++ ids
      → (length (drawn events) < length (node_draws s i) → ⊥) → drawn events ≡ node_draws s i
  all_drawn [] is none = sym (is ∙ append-nil (drawn events))
  all_drawn (d ∷ ids) is none = absurd (none (omega (arith, ap length is, length-append (drawn events) (d ∷ ids))))

  spent : (term round : ℕ) (left : List Load) → length events < s.cap → Stays (free term (Choosing round)) left
      → Shows (free term (Choosing round))
  spent term round left below_cap stays = (
    DrawsSpent,
    (
      ((λ l. l.0), below_cap),
      (term, round, refl),
      all_drawn draws.0 draws.1 (λ unused. stays (λ l. l.0) below_cap (chooses term round refl unused)),
    ),
    (λ e. cc),
  )

  waits : (state : NodeState) (left : List Load) → Waits s.cap s.terms state events → input ≡ got events ++ left
      → Stays state left → Shows state
  waits state [] waiting is stays = (Quiet, (waiting, sym (is ∙ append-nil (got events))), (λ e. cc))
  waits state (m ∷ others) waiting is stays = (
    NoStep m,
    (
      waiting,
      (λ step. stays waiting.0.0 waiting.0.1 (receives m others refl step)),
      (others, is ∙ sym (append_assoc (got events) (m ∷ []) others)),
    ),
    (λ e. cc),
  )

  goes_on : (term : ℕ) (phase : Phase) (owed : Option Load) (left : List Load) → length events < s.cap
      → input ≡ got events ++ left → Stays (record { phase = phase; owed = owed; term = term }) left
      → Shows (record { phase = phase; owed = owed; term = term })
  goes_on term (Leads round id) owed left below_cap is stays = elim (cases_lt term s.terms) [
    | inl below ↦ absurd (stays (λ l. omega (arith, below, l.1)) below_cap (yields tt below))
    | inr past ↦ (Leader, (tt, omega arith), (λ e. cc))
  ]
  goes_on term (Choosing round) None left below_cap is stays = spent term round left below_cap stays
  goes_on term (Choosing round) (Some m) left below_cap is stays = absurd (stays (λ l. l.0) below_cap (owes m refl))
  goes_on term (Active round id) None left below_cap is stays =
      waits (free term (Active round id)) left (((λ l. l.0), below_cap), refl, tt) is stays
  goes_on term (Active round id) (Some m) left below_cap is stays = absurd (stays (λ l. l.0) below_cap (owes m refl))
  goes_on term Passive None left below_cap is stays = waits (free term Passive) left
      (((λ l. l.0), below_cap), refl, tt) is stays
  goes_on term Passive (Some m) left below_cap is stays = absurd (stays (λ l. l.0) below_cap (owes m refl))
  goes_on term Yielding None left below_cap is stays =
      waits (free term Yielding) left (((λ l. l.0), below_cap), refl, tt) is stays
  goes_on term Yielding (Some m) left below_cap is stays = absurd (stays (λ l. l.0) below_cap (owes m refl))

  full : (term : ℕ) (phase : Phase) (owed : Option Load) → length events ≡ s.cap
      → Shows (record { phase = phase; owed = owed; term = term })
  full term (Leads round id) owed is = elim (cases_lt term s.terms) [
    | inl below ↦ (LogFull, ((λ l. omega (arith, below, l.1)), is), (λ e. cc))
    | inr past ↦ (Leader, (tt, omega arith), (λ e. cc))
  ]
  full term (Choosing round) owed is = (LogFull, ((λ l. l.0), is), (λ e. cc))
  full term (Active round id) owed is = (LogFull, ((λ l. l.0), is), (λ e. cc))
  full term Passive owed is = (LogFull, ((λ l. l.0), is), (λ e. cc))
  full term Yielding owed is = (LogFull, ((λ l. l.0), is), (λ e. cc))

  shows : (state : NodeState) (left : List Load) → length events ≤ s.cap → input ≡ got events ++ left → Stays state left
      → Shows state
  shows state left within is stays = elim (cases_lt (length events) s.cap) [
    | inl below_cap ↦ goes_on state.term state.phase state.owed left below_cap is stays
    | inr past ↦ full state.term state.phase state.owed (omega arith)
  ]

-- ---- the ends of all nodes

-- a fact of each member, and of one more before them
each_first : {X : Type 0} (P : ℕ → X → Type 0) (x : X) (xs : List X) → P 0 x
    → ((i : ℕ) (y : X) → slice_get xs i ≡ Some y → P (suc i) y) → (i : ℕ) (y : X) → slice_get (x ∷ xs) i ≡ Some y
    → P i y
each_first P x xs here rest zero y at =
    let same : x ≡ y = cc in
    subst (P 0) same here
each_first P x xs here rest (suc i) y at = rest i y at

-- a list of one member for each number
one_each : {X : Type 0} (n : ℕ) (P : ℕ → X → Type 0) → ((i : ℕ) → i < n → (x : X) × P i x) → (xs : List X)
    × (length xs ≡ n) × ((i : ℕ) (x : X) → slice_get xs i ≡ Some x → P i x)
one_each {X} zero P one = ([], refl, λ i x at. cc)
one_each {X} (suc n) P one =
    let first = one 0 (omega arith) in
    let rest = one_each n (λ i. P (suc i)) (λ i l. one (suc i) (omega arith)) in
    (first.0 ∷ rest.0, ap suc rest.1, each_first P first.0 rest.0 first.1 rest.2)

-- an end of node i, where this is what it made and what was sent to it
abbrev EndsSo : Setup → ℕ → List Event → List Event → Type 0
EndsSo s i events before = (end : NodeEnd)
    × ((state : NodeState) × LeadsTo s.nodes (first_state (is_initiator s i)) events state
    × Says s i state events (sent before) end) × (end ≢ Stopped)

shown_at : (s : Setup) (logs : List Log) (i : ℕ) → AreFullLogs s logs → i < s.nodes → (end : NodeEnd)
    × IsShown s logs i end × (end ≢ Stopped)
shown_at s logs i a l =
    let two : 2 ≤ s.nodes = omega (arith, a.of_setup.ring.ring.0, a.of_setup.number) in
    let p : prev s.nodes i < s.nodes = prev_below s.nodes i l in
    let ended : IsEnded s i (events_at a.run i) (sent (events_at a.run (prev s.nodes i))) =
    full_run_ended s a.run a.end two a.full i l in
    let end = shows s i (events_at a.run i) (sent (events_at a.run (prev s.nodes i))) ended.draws ended.state
    ended.receipts.0 (run_within s a.run a.end i a.full.walk) ended.receipts.1 ended.stays in
    let own : events_at a.run i ≡ log_of logs i = a.events i (omega (arith, a.of_setup.number)) in
    let before : events_at a.run (prev s.nodes i) ≡ log_of logs (prev s.nodes i) =
    a.events (prev s.nodes i) (omega (arith, a.of_setup.number)) in
    let P : List Event × List Event → Type 0 = λ z. EndsSo s i z.0 z.1 in
    subst P (λ j. (own j, before j)) (end.0, (ended.state, ended.leads, end.1), end.2)

pub full_logs_show : (s : Setup) (logs : List Log) → AreFullLogs s logs → (ends : List NodeEnd)
    × IsLoneRun s (record { logs = logs; ends = ends })
full_logs_show s logs a =
    let ends = one_each s.nodes (λ i end. IsShown s logs i end
    × (end ≢ Stopped)) (λ i l. (let x = shown_at s logs i a l in (x.0, (x.1, x.2)))) in (
      ends.0,
      record {
        logs = a;
        many = ends.1;
        ends = λ i end at. (ends.2 i end at).0;
        none_stopped = λ i at. (ends.2 i Stopped at).1 refl;
      },
    )
