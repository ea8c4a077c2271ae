-- Full runs have the same logs, and what nodes recorded agrees with them.
use Rattle.std.proofs.Common.{◌≡◌, ◌≢◌, ℕ, ◌<◌, ◌≤◌, List, map, length, Some, refl, sym, ◌∙◌, subst, ap, arith}
use Rattle.std.specs.Prelude.{slice_get}
use Rattle.std.proofs.lemmas.List.{length-map}
use Rattle.std.proofs.lemmas.Option.{slice_get_within}
use Rattle.ira_event.specs.declared.event.Event.{Event}
use Rattle.ira_node.specs.NodeState.{first_state}
use Rattle.ira_event.specs.Log.{Log}
use Rattle.ira_order.specs.Ring.{prev, log_of, events_of}
use Rattle.ira_order.specs.Matching.{sent, got}
use Rattle.ira_order.proofs.Runs.{prev_below}
use Rattle.ira_order.proofs.RunsOfLogs.{every_order_is_run}
use Rattle.ira_ring_setup.specs.declared.node_end.NodeEnd.{NodeEnd}
use Rattle.ira_ring_setup.specs.declared.node_end.NodeEnd.TheVariants.{Leader, Stopped, DrawsSpent, LogFull, NoStep, Quiet}
use Rattle.ira_ring_setup.specs.Setup.{Setup, KeepsRules, is_initiator, node_draws}
use Rattle.ira_ring_setup.specs.Terms.{YieldsBelow}
use Rattle.ira_ring_setup.specs.Run.{Run}
use Rattle.ira_event.specs.Messages.{drawn}
use Rattle.ira_ring_setup.specs.FullRun.{BeginsWith, AreLogsOf, AreFullLogs}
use Rattle.ira_ring_setup.specs.ShownEnd.{IsShown, IsLoneRun}
use Rattle.ira_ring_setup.specs.Recording.{IsRecording}
use Rattle.ira_ring_setup.specs.Agreement.{AreOfEachFullRun, stopped_for_quiet, Agrees}
use Rattle.ira_ring_setup.proofs.Agreement.{IsEnded, AreEnded, full_run_held, full_runs_same}
use Rattle.ira_ring_setup.proofs.AgreementEnds.{shown_stays, shows_one_end}
use Rattle.ira_ring_setup.proofs.AgreementRound.{all_round, IsWaiting, no_further}
use Rattle.ira_ring_setup.proofs.Beginnings.{sends_begin, same_items}
use Rattle.ira_election.proofs.AnOrder.{local_runs_have_an_order}
use Rattle.ira_ring_setup.proofs.GoingOn.{full_runs_are_busy, recorded_runs, recording_has_own_end}
use Rattle.ira_ring_setup.proofs.Places.{get_map, get_within}

-- ---- full runs

two : (s : Setup) (logs : List Log) → AreLogsOf s logs → 2 ≤ s.nodes
two s logs of_setup = omega (arith, of_setup.ring.ring.0, of_setup.number)

-- the log of each place, and its events
log_at : (s : Setup) (logs : List Log) (i : ℕ) → AreLogsOf s logs → i < s.nodes → (log : Log)
    × (slice_get logs i ≡ Some log) × (log_of logs i ≡ log.events)
log_at s logs i of_setup l =
    let at = get_within logs i (omega (arith, of_setup.number)) in
    (at.0, at.1, ap events_of at.1)

-- logs of one setup's ring with the same events are the same
one_log : (s : Setup) (logs others : List Log) (i : ℕ) (log other : Log) → AreLogsOf s logs → AreLogsOf s others
    → log_of logs i ≡ log_of others i → slice_get logs i ≡ Some log → slice_get others i ≡ Some other → log ≡ other
one_log s logs others i log other a b same at there =
    let nodes : log.nodes ≡ other.nodes =
    a.ring.sizes i log at ∙ a.number ∙ sym b.number ∙ sym (b.ring.sizes i other there) in
    let version : log.version ≡ other.version = a.versions i log at ∙ sym (b.versions i other there) in
    let place : log.place ≡ other.place = a.ring.places i log at ∙ sym (b.ring.places i other there) in
    let kind : log.initiator ≡ other.initiator = a.kinds i log at ∙ sym (b.kinds i other there) in
    let events : log.events ≡ other.events = sym (ap events_of at) ∙ same ∙ ap events_of there in
    λ j. record { version = version j; nodes = nodes j; place = place j; initiator = kind j; events = events j }

same_logs : (s : Setup) (logs others : List Log) → AreLogsOf s logs → AreLogsOf s others
    → ((i : ℕ) → i < s.nodes → log_of logs i ≡ log_of others i) → logs ≡ others
same_logs s logs others a b same =
    same_items logs others (a.number ∙ sym b.number)
    (λ i log other at there. one_log s logs others i log other a b
    (same i (omega (arith, a.number, slice_get_within logs i log at))) at there)

pub full_logs_same : (s : Setup) (logs : List Log) → AreFullLogs s logs → AreOfEachFullRun s logs
full_logs_same s logs a full b =
    same_logs s full logs b.of_setup a.of_setup
    (λ i l. sym (b.events i (omega (arith, b.of_setup.number)))
    ∙ full_runs_same s b.run a.run b.end a.end (two s logs a.of_setup) b.full a.full i l
    ∙ a.events i (omega (arith, a.of_setup.number)))

-- so a lone run has the logs of each full run
pub lone_logs_same : (s : Setup) (run : Run) → IsLoneRun s run → AreOfEachFullRun s run.logs
lone_logs_same s run lone = full_logs_same s run.logs lone.logs

-- ---- what was recorded

-- what the nodes recorded is ended
recording_ended : (s : Setup) (run : Run) → IsRecording s run → AreEnded s (log_of run.logs)
recording_ended s run rec i l =
    let log = log_at s run.logs i rec.logs l in
    let end = get_within run.ends i (omega (arith, rec.many)) in
    let shown = rec.ends i end.0 end.1 in
    let P : List Event → Type 0 = λ es. BeginsWith (node_draws s i) (drawn es) in
    let Q : List Event → Type 0 = λ es. BeginsWith (sent (log_of run.logs (prev s.nodes i))) (got es) in
    let receipts : BeginsWith (sent (log_of run.logs (prev s.nodes i))) (got (log_of run.logs i)) =
    subst Q (sym log.2) (rec.links i log.0 log.1) in
    record {
      state = shown.0;
      leads = shown.1;
      draws = subst P (sym log.2) (rec.draws i log.0 log.1);
      receipts = receipts;
      stays = shown_stays s i shown.0 (log_of run.logs i) (sent (log_of run.logs (prev s.nodes i))) receipts.0 end.0
          receipts.1 shown.2;
    }

pub recording_begins : (s : Setup) (run : Run) → IsRecording s run → (full : List Log) → AreFullLogs s full → (i : ℕ)
    → i < s.nodes → BeginsWith (log_of run.logs i) (log_of full i)
recording_begins s run rec full a i l =
    let P : List Event → Type 0 = λ es. BeginsWith (log_of run.logs i) es in
    subst P (a.events i (omega (arith, a.of_setup.number)))
    (full_run_held s (log_of run.logs) a.run a.end (two s full a.of_setup) (recording_ended s run rec) a.full i l)

-- ---- with a full run, in which some node ended otherwise than Quiet

only_quiet_waits : (end : NodeEnd) → end ≢ Quiet → end ≢ Stopped → IsWaiting end → ⊥
only_quiet_waits Leader q t w = w
only_quiet_waits Stopped q t w = t refl
only_quiet_waits DrawsSpent q t w = w
only_quiet_waits LogFull q t w = w
only_quiet_waits (NoStep m) q t w = w
only_quiet_waits Quiet q t w = q refl

told_as_it_is : (end : NodeEnd) → end ≢ Quiet → stopped_for_quiet end ≡ end
told_as_it_is Leader ne = refl
told_as_it_is Stopped ne = refl
told_as_it_is DrawsSpent ne = refl
told_as_it_is LogFull ne = refl
told_as_it_is (NoStep m) ne = refl
told_as_it_is Quiet ne = absurd (ne refl)

module _ (s : Setup) (run lone : Run) (keeps : KeepsRules s) (rec : IsRecording s run) (full : IsLoneRun s lone) where
  -- node i did as much
  abbrev AsMuch : ℕ → Type 0
  AsMuch i = log_of run.logs i ≡ log_of lone.logs i

  as_much : (i : ℕ) (end : NodeEnd) → i < s.nodes → slice_get lone.ends i ≡ Some end
      → (IsWaiting end → AsMuch (prev s.nodes i)) → AsMuch i
  as_much i end l at before =
      let log = log_at s run.logs i rec.logs l in
      let ended : IsEnded s i (log_of run.logs i) (sent (log_of run.logs (prev s.nodes i))) =
      recording_ended s run rec i l in
      let shown = full.ends i end at in
      let begins = recording_begins s run rec lone.logs full.logs i l in
      let p : prev s.nodes i < s.nodes = prev_below s.nodes i l in
      let Below : List Event → Type 0 = λ es. YieldsBelow s.terms s.nodes (first_state (is_initiator s i)) es in
      no_further s i (log_of run.logs i) (log_of lone.logs i) shown.0 ended.state
      (sent (log_of run.logs (prev s.nodes i))) (sent (log_of lone.logs (prev s.nodes i)))
      shown.1 ended.leads (omega (arith, rec.counts i log.0 log.1, ap length log.2))
      (subst Below (sym log.2) (rec.yields i log.0 log.1)) ended.draws ended.receipts
      (sends_begin (log_of run.logs (prev s.nodes i)) (log_of lone.logs (prev s.nodes i))
      (recording_begins s run rec lone.logs full.logs (prev s.nodes i) p))
      end begins.0 (λ w. ap sent (before w)) shown.2 begins.1

  each_as_much : (i : ℕ) → i < s.nodes → AsMuch i
  each_as_much i l =
      let busy = full_runs_are_busy s lone keeps full in
      let end_at : (j : ℕ) → j < s.nodes → (end : NodeEnd) × (slice_get lone.ends j ≡ Some end) =
      λ j lj. get_within lone.ends j (omega (arith, full.many)) in
      let first : busy.0 < s.nodes = omega (arith, full.many, slice_get_within lone.ends busy.0 busy.1 busy.2) in
      let not_stopped : busy.1 ≢ Stopped = λ is. full.none_stopped busy.0 (busy.2 ∙ ap Some is) in
      all_round s.nodes AsMuch (λ j lj before. as_much j (end_at j lj).0 lj (end_at j lj).1 (λ w. before)) busy.0 i
      first l
      (as_much busy.0 busy.1 first busy.2 (λ w. absurd (only_quiet_waits busy.1 busy.3 not_stopped w)))

  logs_same : run.logs ≡ lone.logs
  logs_same = same_logs s run.logs lone.logs rec.logs full.logs.of_setup each_as_much

  ends_same : run.ends ≡ map stopped_for_quiet lone.ends
  ends_same =
      same_items run.ends (map stopped_for_quiet lone.ends) (rec.many ∙ sym full.many
      ∙ sym (length-map lone.ends stopped_for_quiet))
      (λ i end other at there.
      let alone = get_map stopped_for_quiet lone.ends i other there in
      let P : List Log → Type 0 = λ ls. IsShown s ls i end in
      let shown : IsShown s lone.logs i end = subst P logs_same (rec.ends i end at) in
      let not_quiet : end ≢ Quiet = λ is. rec.none_quiet i (at ∙ ap Some is) in
      sym (told_as_it_is end not_quiet) ∙ shows_one_end s lone.logs i end alone.0 shown (full.ends i alone.0 alone.1)
      ∙ alone.2)

pub recording_agrees : (s : Setup) (run : Run) → KeepsRules s → IsRecording s run → Agrees s run
recording_agrees s run keeps rec =
    let ring = rec.logs.ring in
    let order = local_runs_have_an_order run.logs ring (recorded_runs s run rec).matches rec.runs in
    record {
      begins = recording_begins s run rec;
      same = λ lone full. (logs_same s run lone keeps rec full, ends_same s run lone keeps rec full);
      ordered = (order, every_order_is_run run.logs ring order.0 rec.runs);
      own_end = recording_has_own_end s run keeps rec;
    }
