-- Logs of a setup's ring that match, and all of whose events have steps: not all nodes wait for a load that doesn't
-- come, each load that comes has a step, and a node that leads is alone.
use Rattle.std.proofs.Common.{◌≡◌, ◌≢◌, ℕ, zero, suc, ◌<◌, ◌⊎◌, inl, inr, List, [], ◌∷◌, ◌++◌, Bool, Some, length, take}
use Rattle.std.proofs.Common.{refl, sym, ◌∙◌, subst, ap, arith, append_assoc, drop}
use Rattle.std.specs.Prelude.{slice_get}
use Rattle.std.proofs.Math.Seq.{drop-append_seam}
use Rattle.std.proofs.lemmas.List.{take_all}
use Rattle.std.proofs.lemmas.Option.{slice_get_within}
use Rattle.ira_event.specs.declared.event.Event.{Event}
use Rattle.ira_event.specs.declared.event.Event.TheVariants.{Got}
use Rattle.ira_event.specs.declared.load.Load.{Load}
use Rattle.ira_event.specs.Log.{Log}
use Rattle.ira_event.specs.Logs.{AreLogs, EachLog}
use Rattle.ira_node.specs.declared.node_state.NodeState.{NodeState}
use Rattle.ira_node.specs.declared.phase.Phase.TheVariants.{Passive}
use Rattle.ira_node.specs.NodeState.{first_state, IsLeader}
use Rattle.ira_node.specs.NodeStep.{HasStep}
use Rattle.ira_replay.specs.LocalRun.{LeadsTo}
use Rattle.ira_order.specs.Matching.{Matches, sent, got}
use Rattle.ira_order.specs.Ring.{log_of, events_of, next, prev}
use Rattle.ira_order.specs.Run.{AreLocalRuns}
use Rattle.ira_order.proofs.Converse.{balanced_matches}
use Rattle.ira_order.proofs.Ranks.{next_below}
use Rattle.ira_order.proofs.Runs.{prev_next}
use Rattle.ira_order.proofs.RunsOfLogs.{run_is_order}
use Rattle.ira_election.proofs.AnOrder.{whole_logs}
use Rattle.ira_election.proofs.Cuts.{Comes, first_step, not_all_stand, rests}
use Rattle.ira_election.proofs.Going.{IsCutOfRuns}
use Rattle.ira_ring_setup.specs.declared.node_end.NodeEnd.{NodeEnd}
use Rattle.ira_ring_setup.specs.declared.node_end.NodeEnd.TheVariants.{Leader, Stopped, DrawsSpent, LogFull, NoStep, Quiet}
use Rattle.ira_ring_setup.specs.FullRun.{BeginsWith}
use Rattle.ira_ring_setup.specs.FullRunLaws.{FullRunsAreBusy, NoFullRunLacksAStep, FullRunsElectOrStop}
use Rattle.ira_ring_setup.specs.FullRunLaws.{FullRunLeadersAreAlone}
use Rattle.ira_ring_setup.specs.Recording.{IsRecording, HasOwnEnd}
use Rattle.ira_ring_setup.specs.Run.{Run}
use Rattle.ira_ring_setup.specs.Setup.{Setup, KeepsRules, is_initiator}
use Rattle.ira_ring_setup.specs.ShownEnd.{IsShown, IsLoneRun}
use Rattle.ira_ring_setup.proofs.FullRuns.{full_run_is_run}
use Rattle.ira_ring_setup.proofs.Places.{get_within}

pub record AreRunsOf (s : Setup) (logs : List Log) : Type 0 where
  pub number : length logs ≡ s.nodes
  pub sizes : EachLog logs (λ _ log. log.nodes ≡ length logs)
  pub kinds : EachLog logs (λ i log. log.initiator ≡ is_initiator s i)
  pub matches : Matches logs
  pub local : AreLocalRuns logs

module _ (s : Setup) (logs : List Log) (keeps : KeepsRules s) (runs : AreRunsOf s logs) where
  cut : IsCutOfRuns logs (λ j. length (log_of logs j))
  cut = whole_logs logs (omega (arith, runs.number, keeps.size.0)) runs.sizes runs.matches runs.local

  all_of : (es : List Event) → take (length es) es ≡ es
  all_of es = take_all (length es) es (omega arith)

  -- where the events of a node lead
  comes : (i : ℕ) (end : NodeEnd) → i < s.nodes → (shown : IsShown s logs i end)
      → Comes logs (λ j. length (log_of logs j)) i shown.0
  comes i end li shown =
      let l = get_within logs i (omega (arith, runs.number)) in
      let log = l.0 in
      let nodes : s.nodes ≡ log.nodes = sym runs.number ∙ sym (runs.sizes i log l.1) in
      let events : log_of logs i ≡ log.events = ap events_of l.1 in
      let whole : take (length (log_of logs i)) log.events ≡ log.events =
      take_all (length (log_of logs i)) log.events (omega (arith, ap length events)) in
      record {
        log = log;
        at = l.1;
        leads = subst (λ (es : List Event). LeadsTo log.nodes (first_state log.initiator) es shown.0) (sym whole)
            (subst (λ (n : ℕ). LeadsTo n (first_state log.initiator) log.events shown.0) nodes
            (subst (λ (b : Bool). LeadsTo s.nodes (first_state b) log.events shown.0) (sym (runs.kinds i log l.1))
            (subst (λ (es : List Event). LeadsTo s.nodes (first_state (is_initiator s i)) es shown.0) events
            shown.1)));
      }

  pub not_all_wait : ((i : ℕ) → i < s.nodes → IsShown s logs i Quiet) → ⊥
  not_all_wait quiet =
      let k = keeps.initiator in
      let log = get_within logs k.0 (omega (arith, runs.number, k.1)) in
      not_all_stand cut k.0 log.0 log.1 (runs.kinds k.0 log.0 log.1 ∙ k.2) (λ j lj.
      let i = next (length logs) j in
      let li = next_below (length logs) j lj in
      let shown = quiet j (omega (arith, runs.number)) in
      let after = quiet i (omega (arith, runs.number, li)) in
      record {
        state = shown.0;
        comes = comes j Quiet (omega (arith, runs.number)) shown;
        owes = shown.2.0.1;
        waits = shown.2.0.2;
        received = ap sent (all_of (log_of logs j))
            ∙ ap (λ (x : ℕ). sent (log_of logs x)) (prev_next (length logs) i j li lj refl)
            ∙ ap (λ (n : ℕ). sent (log_of logs (prev n i))) runs.number ∙ sym after.2.1
            ∙ ap got (sym (all_of (log_of logs i)));
      })

  pub no_load_lacks_a_step : AreLogs logs → (i : ℕ) (l : Load) → i < s.nodes → IsShown s logs i (NoStep l) → ⊥
  no_load_lacks_a_step are i l li shown =
      let p = prev (length logs) i in
      let rest = shown.2.2 in
      shown.2.1 (subst (λ (n : ℕ). HasStep n shown.0 (Got l)) runs.number
      (first_step cut are i shown.0 l rest.0 (comes i (NoStep l) li shown) shown.2.0.1 shown.2.0.2
      (ap sent (all_of (log_of logs p)) ∙ ap (λ (n : ℕ). sent (log_of logs (prev n i))) runs.number ∙ rest.1
      ∙ append_assoc (got (log_of logs i)) (l ∷ []) rest.0
      ∙ ap (λ (es : List Event). got es ++ l ∷ rest.0) (sym (all_of (log_of logs i))))))

  pub others_are_passive : (i j : ℕ) (end : NodeEnd) → i < s.nodes → j < s.nodes → j ≢ i → IsShown s logs i Leader
      → (shown : IsShown s logs j end) → shown.0.phase ≡ Passive
  others_are_passive i j end li lj ne leads shown =
      (rests cut i j leads.0 shown.0 (comes i Leader li leads) leads.2.0 (comes j end lj shown)).passive ne

-- ---- full runs

pub lone_runs : (s : Setup) (lone : Run) → IsLoneRun s lone → AreRunsOf s lone.logs
lone_runs s lone full =
    let a = full.logs in
    let h = run_is_order lone.logs a.run a.of_setup.ring (full_run_is_run s lone.logs a.run a.end a.of_setup a.full)
    a.events in
    record {
      number = a.of_setup.number;
      sizes = a.of_setup.ring.sizes;
      kinds = a.of_setup.kinds;
      matches = h.0;
      local = h.1;
    }

-- each end is so, or one is other
all_or_one : (P : NodeEnd → Type 0) → ((e : NodeEnd) → P e ⊎ (P e → ⊥)) → (ends : List NodeEnd)
    → ((i : ℕ) (end : NodeEnd) → slice_get ends i ≡ Some end → P end)
    ⊎ ((i : ℕ) × (end : NodeEnd) × (slice_get ends i ≡ Some end) × (P end → ⊥))
all_or_one P decided [] = inl (λ i end at. absurd cc)
all_or_one P decided (e ∷ es) = elim (decided e) [
  | inr not ↦ inr (zero, e, refl, not)
  | inl is ↦ elim (all_or_one P decided es) [
    | inr other ↦ inr (suc other.0, other.1, other.2, other.3)
    | inl all ↦ inl (more P e es is all)
  ]
]
  where
    more : (P : NodeEnd → Type 0) (e : NodeEnd) (es : List NodeEnd) → P e
        → ((i : ℕ) (end : NodeEnd) → slice_get es i ≡ Some end → P end) → (i : ℕ) (end : NodeEnd)
        → slice_get (e ∷ es) i ≡ Some end → P end
    more P e es is all zero end at = (let same : e ≡ end = cc in subst P same is)
    more P e es is all (suc i) end at = all i end at

quiet_or : (e : NodeEnd) → (e ≡ Quiet) ⊎ (e ≢ Quiet)
quiet_or Leader = inr (λ e. cc)
quiet_or Stopped = inr (λ e. cc)
quiet_or DrawsSpent = inr (λ e. cc)
quiet_or LogFull = inr (λ e. cc)
quiet_or (NoStep l) = inr (λ e. cc)
quiet_or Quiet = inl refl

stopped_or : (e : NodeEnd) → (e ≡ Stopped) ⊎ (e ≢ Stopped)
stopped_or Leader = inr (λ e. cc)
stopped_or Stopped = inl refl
stopped_or DrawsSpent = inr (λ e. cc)
stopped_or LogFull = inr (λ e. cc)
stopped_or (NoStep l) = inr (λ e. cc)
stopped_or Quiet = inr (λ e. cc)

pub full_runs_are_busy : FullRunsAreBusy
full_runs_are_busy s lone keeps full = elim (all_or_one (λ e. e ≡ Quiet) quiet_or lone.ends) [
  | inr busy ↦ busy
  | inl quiet ↦ absurd (not_all_wait s lone.logs keeps (lone_runs s lone full) (λ i li.
      (let end = get_within lone.ends i (omega (arith, full.many)) in
      subst (λ (e : NodeEnd). IsShown s lone.logs i e) (quiet i end.0 end.1) (full.ends i end.0 end.1))))
]

pub no_full_run_lacks_a_step : NoFullRunLacksAStep
no_full_run_lacks_a_step s lone i l keeps full at =
    no_load_lacks_a_step s lone.logs keeps (lone_runs s lone full) full.logs.of_setup.ring i l
    (omega (arith, full.many, slice_get_within lone.ends i (NoStep l) at)) (full.ends i (NoStep l) at)

pub full_runs_elect_or_stop : FullRunsElectOrStop
full_runs_elect_or_stop s lone keeps full =
    let busy = full_runs_are_busy s lone keeps full in
    (busy.0, busy.1, busy.2, by_end busy.0 busy.1 busy.2 busy.3)
  where
    by_end : (i : ℕ) (e : NodeEnd) → slice_get lone.ends i ≡ Some e → e ≢ Quiet
        → (e ≡ Leader) ⊎ ((e ≡ DrawsSpent) ⊎ (e ≡ LogFull))
    by_end i Leader at ne = inl refl
    by_end i Stopped at ne = absurd (full.none_stopped i at)
    by_end i DrawsSpent at ne = inr (inl refl)
    by_end i LogFull at ne = inr (inr refl)
    by_end i (NoStep l) at ne = absurd (no_full_run_lacks_a_step s lone i l keeps full at)
    by_end i Quiet at ne = absurd (ne refl)

pub full_run_leaders_are_alone : FullRunLeadersAreAlone
full_run_leaders_are_alone s lone i j end keeps full at_i at_j ne = by_end end at_j (full.ends j end at_j)
  where
    passive : (e : NodeEnd) → slice_get lone.ends j ≡ Some e → (shown : IsShown s lone.logs j e)
        → shown.0.phase ≡ Passive
    passive e at shown =
        others_are_passive s lone.logs keeps (lone_runs s lone full) i j e
        (omega (arith, full.many, slice_get_within lone.ends i Leader at_i))
        (omega (arith, full.many, slice_get_within lone.ends j e at)) ne (full.ends i Leader at_i) shown

    by_end : (e : NodeEnd) → slice_get lone.ends j ≡ Some e → IsShown s lone.logs j e → (e ≡ Quiet) ⊎ (e ≡ LogFull)
    by_end Leader at shown = absurd (subst IsLeader (passive Leader at shown) shown.2.0)
    by_end Stopped at shown = absurd (full.none_stopped j at)
    by_end DrawsSpent at shown =
        let z = sym (passive DrawsSpent at shown) ∙ ap (λ (x : NodeState). x.phase) shown.2.1.2 in
        absurd (let w : ⊥ = cc in w)
    by_end LogFull at shown = inr refl
    by_end (NoStep l) at shown = absurd (no_full_run_lacks_a_step s lone j l keeps full at)
    by_end Quiet at shown = inl refl

-- ---- recordings

-- on each link what was received begins what was sent, so the logs match
pub begun_matches : (logs : List Log) → ((i : ℕ) → i < length logs
    → BeginsWith (sent (log_of logs (prev (length logs) i))) (got (log_of logs i))) → Matches logs
begun_matches logs begun =
    balanced_matches logs
    (λ k. drop (length (got (log_of logs (next (length logs) k)))) (sent (log_of logs k))) (λ k lk.
    let i = next (length logs) k in
    let li = next_below (length logs) k lk in
    let rest = begun i li in
    let parts : sent (log_of logs k) ≡ got (log_of logs i) ++ rest.0 =
    ap (λ (x : ℕ). sent (log_of logs x)) (prev_next (length logs) i k li lk refl) ∙ rest.1 in
    ap (λ (ls : List Load). got (log_of logs i) ++ drop (length (got (log_of logs i))) ls) parts
    ∙ ap (λ (ls : List Load). got (log_of logs i) ++ ls) (drop-append_seam (got (log_of logs i)) rest.0) ∙ sym parts)

pub linked_runs : (s : Setup) (logs : List Log) → length logs ≡ s.nodes → EachLog logs (λ i log. log.nodes ≡ s.nodes)
    → EachLog logs (λ i log. log.initiator ≡ is_initiator s i) → AreLocalRuns logs
    → EachLog logs (λ i log. BeginsWith (sent (log_of logs (prev s.nodes i))) (got log.events)) → AreRunsOf s logs
linked_runs s logs number sizes kinds local links = record {
  number = number;
  sizes = λ i log at. sizes i log at ∙ sym number;
  kinds = kinds;
  matches = begun_matches logs (λ i li.
      (let l = get_within logs i li in
      subst (λ (n : ℕ). BeginsWith (sent (log_of logs (prev n i))) (got (log_of logs i))) (sym number)
      (subst (λ (es : List Event). BeginsWith (sent (log_of logs (prev s.nodes i))) (got es)) (sym (ap events_of l.1))
      (links i l.0 l.1))));
  local = local;
}

pub recorded_runs : (s : Setup) (run : Run) → IsRecording s run → AreRunsOf s run.logs
recorded_runs s run rec =
    linked_runs s run.logs rec.logs.number (λ i log at. rec.logs.ring.sizes i log at ∙ rec.logs.number) rec.logs.kinds
    rec.runs rec.links

pub recording_has_own_end : (s : Setup) (run : Run) → KeepsRules s → IsRecording s run → HasOwnEnd run
recording_has_own_end s run keeps rec = elim (all_or_one (λ e. e ≡ Stopped) stopped_or run.ends) [
  | inr other ↦ other
  | inl stopped ↦ absurd (not_all_wait s run.logs keeps (recorded_runs s run rec) (λ i li.
      (let end = get_within run.ends i (omega (arith, rec.many)) in
      subst (λ (e : NodeEnd). IsShown s run.logs i e) (stopped i end.0 end.1) (rec.ends i end.0 end.1))))
]
