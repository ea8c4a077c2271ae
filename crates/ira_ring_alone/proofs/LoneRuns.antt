-- What a lone run gives: the logs of a full run, and ends that they show.
use Rattle.std.proofs.Common.{◌≡◌, ◌≢◌, ℕ, ◌++◌, ◌<◌, ◌≤◌, List, [], ◌∷◌, Some, length, get_or, refl, sym, ◌∙◌, subst}
use Rattle.std.proofs.Common.{ap, append-nil, append_assoc, arith}
use Rattle.std.specs.Prelude.{slice_get}
use Rattle.std.proofs.lemmas.Option.{slice_get-get_or, slice_get_within}
use Rattle.ira_event.specs.declared.event.Event.{Event}
use Rattle.ira_event.specs.declared.load.Load.{Load}
use Rattle.ira_event.specs.Log.{Log, IsLog}
use Rattle.ira_event.specs.Logs.{AreLogs}
use Rattle.ira_event.specs.RingSize.{IsRingSize}
use Rattle.ira_node.specs.declared.node_state.NodeState.{NodeState}
use Rattle.ira_node.specs.NodeState.{first_state}
use Rattle.ira_node.proofs.Wants.{receiving_leads_not}
use Rattle.ira_replay.specs.LocalRun.{LeadsTo}
use Rattle.ira_order.specs.Ring.{next, prev, log_of, events_of}
use Rattle.ira_order.specs.Matching.{sent, got}
use Rattle.ira_order.proofs.Runs.{next_prev, prev_below}
use Rattle.ira_order.proofs.Converse.{Balanced}
use Rattle.ira_ring_setup.specs.declared.node_end.NodeEnd.{NodeEnd}
use Rattle.ira_ring_setup.specs.declared.node_end.NodeEnd.TheVariants.{Leader, Stopped, DrawsSpent, LogFull, NoStep, Quiet}
use Rattle.ira_ring_setup.specs.Setup.{Setup, is_initiator, node_draws, KeepsRules}
use Rattle.ira_ring_setup.specs.Terms.{version_of}
use Rattle.ira_ring_setup.specs.Run.{Run}
use Rattle.ira_event.specs.Messages.{drawn}
use Rattle.ira_ring_setup.specs.FullRun.{opening_of, events_at, AreFullLogs}
use Rattle.ira_ring_setup.specs.ShownEnd.{Says, IsShown, IsLoneRun}
use Rattle.ira_ring_alone.specs.LoneNode.{LoneNode, Ends}
use Rattle.ira_ring_alone.specs.LoneRing.{node_at, IsReached, AreAtEnd, AreLogsOfNodes, AreEndsOfNodes}
use Rattle.ira_ring_alone.proofs.LoneEnds.{ended_no_step}
use Rattle.ira_ring_setup.proofs.FullRuns.{no_log}
use Rattle.ira_ring_alone.proofs.LoneLogs.{is_log}
use Rattle.ira_ring_alone.proofs.LoneNodes.{choosing_leads_not}
use Rattle.ira_ring_setup.proofs.Recordable.{run_within}
use Rattle.ira_ring_setup.proofs.Walks.{walk_leads, walk_balanced}

-- ---- the logs

pub are_logs : (s : Setup) (nodes : List LoneNode) (logs : List Log) → KeepsRules s → IsReached s nodes
    → AreLogsOfNodes s nodes logs → AreLogs logs
are_logs s nodes logs rules reached of_nodes =
    let many : length logs ≡ s.nodes = of_nodes.0 ∙ reached.many in
    record {
      ring = subst IsRingSize (sym many) rules.size;
      sizes = λ i log at. ap (λ (x : Log). x.nodes) (of_nodes.1 i log at) ∙ sym many;
      places = λ i log at. ap (λ (x : Log). x.place) (of_nodes.1 i log at);
      valid = λ i log at. subst IsLog (sym (of_nodes.1 i log at))
          (is_log s nodes i rules reached (omega (arith, slice_get_within logs i log at)));
      version = version_of s.nodes s.terms;
      versions = λ i log at. ap (λ (x : Log). x.version) (of_nodes.1 i log at);
    }

log_of_node : (s : Setup) (nodes : List LoneNode) (logs : List Log) → IsReached s nodes → AreLogsOfNodes s nodes logs
    → (i : ℕ) → i < s.nodes → log_of logs i ≡ (node_at nodes i).events
log_of_node s nodes logs reached of_nodes i l =
    let at : slice_get logs i ≡ Some (get_or logs i no_log) =
    slice_get-get_or logs i no_log (omega (arith, of_nodes.0, reached.many)) in
    ap events_of at ∙ ap (λ (x : Log). x.events) (of_nodes.1 i (get_or logs i no_log) at)

pub full_logs : (s : Setup) (nodes : List LoneNode) (logs : List Log) → KeepsRules s → AreAtEnd s nodes
    → AreLogsOfNodes s nodes logs → AreFullLogs s logs
full_logs s nodes logs rules done of_nodes =
    let reached : IsReached s nodes = done.0 in
    let many : length logs ≡ s.nodes = of_nodes.0 ∙ done.0.many in
    record {
      of_setup = record {
        ring = are_logs s nodes logs rules done.0 of_nodes;
        number = many;
        versions = λ i log at. ap (λ (x : Log). x.version) (of_nodes.1 i log at);
        kinds = λ i log at. ap (λ (x : Log). x.initiator) (of_nodes.1 i log at);
      };
      run = done.0.run;
      end = done.0.point;
      full = record {
        walk = done.0.walk;
        draws = λ i l. (
          (node_at nodes i).ids,
          done.0.draws i l ∙ ap (λ (x : List Event). drawn x ++ (node_at nodes i).ids) (sym (done.0.events i l)),
        );
        whole = λ i l. ended_no_step s nodes done.0 i l (done.1 i l);
      };
      events = λ i l. done.0.events i (omega arith) ∙ sym (log_of_node s nodes logs done.0 of_nodes i (omega arith));
    }

-- ---- the ends

says_of : (s : Setup) (i : ℕ) (node : LoneNode) (input : List Load) (end : NodeEnd) → length node.events ≤ s.cap
    → node_draws s i ≡ drawn node.events ++ node.ids → got node.events ++ node.input ≡ input
    → Ends s.nodes s.cap s.terms node end → Says s i node.state node.events input end
says_of s i node input Leader within left links h = h
says_of s i node input Stopped within left links h = absurd h
says_of s i node input LogFull within left links h = (h.0, omega (arith, h.1))
says_of s i node input DrawsSpent within left links h = (
  ((λ l. choosing_leads_not node.state h.1.0 h.1.1 h.1.2 l.0), h.0),
  h.1,
  sym (append-nil (drawn node.events)) ∙ ap (λ (x : List ℕ). drawn node.events ++ x) (sym h.2) ∙ sym left,
)
says_of s i node input (NoStep m) within left links h = (
  (((λ l. receiving_leads_not node.state.phase h.2 l.0), h.0), h.1, h.2),
  h.4,
  (
    h.3.0,
    sym links ∙ ap (λ (x : List Load). got node.events ++ x) h.3.1
        ∙ sym (append_assoc (got node.events) (m ∷ []) h.3.0),
  ),
)
says_of s i node input Quiet within left links h = (
  (((λ l. receiving_leads_not node.state.phase h.2 l.0), h.0), h.1, h.2),
  sym (append-nil (got node.events)) ∙ ap (λ (x : List Load). got node.events ++ x) (sym h.3) ∙ links,
)

is_shown : (s : Setup) (nodes : List LoneNode) (logs : List Log) → KeepsRules s → IsReached s nodes
    → AreLogsOfNodes s nodes logs → (i : ℕ) (end : NodeEnd) → i < s.nodes
    → Ends s.nodes s.cap s.terms (node_at nodes i) end → IsShown s logs i end
is_shown s nodes logs rules reached of_nodes i end l ends =
    let node : LoneNode = node_at nodes i in
    let log : log_of logs i ≡ (node_at nodes i).events = log_of_node s nodes logs reached of_nodes i l in
    let p : prev s.nodes i < s.nodes = prev_below s.nodes i l in
    let balanced : Balanced s.nodes (events_at reached.run) reached.point.link =
    walk_balanced s [] (opening_of s) reached.run reached.point rules.size.0 (λ k lk. refl) reached.walk in
    let leads : LeadsTo s.nodes (first_state (is_initiator s i)) (events_at reached.run i) (reached.point.state i) =
    walk_leads s [] (opening_of s) reached.run reached.point i l reached.walk in
    let own : events_at reached.run (next s.nodes (prev s.nodes i)) ≡ (node_at nodes i).events =
    ap (events_at reached.run) (next_prev s.nodes i l) ∙ reached.events i l in
    let sends : sent (events_at reached.run (prev s.nodes i)) ≡ sent (log_of logs (prev s.nodes i)) =
    ap sent (reached.events (prev s.nodes i) p ∙ sym (log_of_node s nodes logs reached of_nodes (prev s.nodes i) p))
    in
    let links : got (node_at nodes i).events ++ (node_at nodes i).input ≡ sent (log_of logs (prev s.nodes i)) =
    ap (λ (x : List Event). got x ++ (node_at nodes i).input) (sym own)
    ∙ ap (λ (x : List Load). got (events_at reached.run (next s.nodes (prev s.nodes i))) ++ x) (sym (reached.links i l))
    ∙ balanced (prev s.nodes i) p
    ∙ sends in
    let within : length (node_at nodes i).events ≤ s.cap =
    omega (arith, run_within s reached.run reached.point i reached.walk, ap length (reached.events i l)) in
    let P : List Event → Type 0 = λ es. LeadsTo s.nodes (first_state (is_initiator s i)) es (node_at nodes i).state in
    let Q : NodeState → Type 0 = λ x. LeadsTo s.nodes (first_state (is_initiator s i)) (events_at reached.run i) x in
    let R : List Event → Type 0 =
    λ es. Says s i (node_at nodes i).state es (sent (log_of logs (prev s.nodes i))) end in (
      (node_at nodes i).state,
      subst P (reached.events i l ∙ sym log) (subst Q (reached.states i l) leads),
      subst R (sym log) (says_of s i (node_at nodes i) (sent (log_of logs (prev s.nodes i))) end within
          (reached.draws i l) links ends),
    )

not_stopped : (s : Setup) (node : LoneNode) (end : NodeEnd) → Ends s.nodes s.cap s.terms node end → end ≢ Stopped
not_stopped s node end ends is = subst (λ (x : NodeEnd). Ends s.nodes s.cap s.terms node x) is ends

pub is_lone_run : (s : Setup) (nodes : List LoneNode) (logs : List Log) (ends : List NodeEnd) (run : Run) → KeepsRules s
    → AreAtEnd s nodes → AreLogsOfNodes s nodes logs → AreEndsOfNodes s nodes ends
    → run ≡ record { logs = logs; ends = ends } → IsLoneRun s run
is_lone_run s nodes logs ends run rules done of_nodes are_ends is =
    let place : (i : ℕ) (end : NodeEnd) → slice_get ends i ≡ Some end → i < s.nodes =
    λ i end at. omega (arith, slice_get_within ends i end at, are_ends.0, done.0.many) in
    subst (IsLoneRun s) (sym is) record {
      logs = full_logs s nodes logs rules done of_nodes;
      many = omega (arith, are_ends.0, done.0.many);
      ends = λ i end at. is_shown s nodes logs rules done.0 of_nodes i end
          (omega (arith, slice_get_within ends i end at, are_ends.0, done.0.many)) (are_ends.1 i end at);
      none_stopped = λ i at. not_stopped s (node_at nodes i) Stopped (are_ends.1 i Stopped at) refl;
    }
