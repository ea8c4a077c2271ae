-- What the nodes of a ring recorded, from what they did one by one and from the frames that passed the links.
-- No thread occurs here.
use Rattle.std.proofs.Common.{◌≡◌, ℕ, ◌<◌, ◌≤◌, Bool, List, [], ◌∷◌, ◌++◌, map, length, Option, Some, refl}
use Rattle.std.proofs.Common.{sym, ap, ◌∙◌, subst, arith}
use Rattle.std.specs.Prelude.{slice_get, option_map}
use Rattle.std.proofs.lemmas.List.{append-nil, length-map, map-append}
use Rattle.std.proofs.lemmas.Option.{slice_get-map, slice_get_within}
use mathlib.Core.List.{IsPrefix}
use Rattle.ira_event.specs.declared.event.Event.{Event}
use Rattle.ira_event.specs.declared.load.Load.{Load}
use Rattle.ira_event.specs.Log.{Log}
use Rattle.ira_event.specs.Logs.{EachLog}
use Rattle.ira_links.specs.declared.frame.Frame.{Frame}
use Rattle.ira_links.specs.declared.frame.Frame.TheVariants.{Load as Loaded, Stop}
use Rattle.ira_node.specs.declared.node_state.NodeState.{NodeState}
use Rattle.ira_node.specs.NodeState.{first_state}
use Rattle.ira_replay.specs.LocalRun.{LeadsTo, IsLocalRun}
use Rattle.ira_order.specs.Ring.{prev, log_of, events_of}
use Rattle.ira_order.specs.Matching.{sent, got}
use Rattle.ira_ring_setup.specs.declared.node_end.NodeEnd.{NodeEnd}
use Rattle.ira_ring_setup.specs.declared.node_end.NodeEnd.TheVariants.{Leader, Stopped, DrawsSpent, LogFull, NoStep, Quiet}
use Rattle.ira_ring_setup.specs.Terms.{version_of, YieldsBelow}
use Rattle.ira_ring_setup.specs.Setup.{Setup, KeepsRules, is_initiator, node_draws}
use Rattle.ira_event.specs.Messages.{drawn}
use Rattle.ira_order.proofs.Runs.{prev_below}
use Rattle.ira_ring_setup.specs.FullRun.{BeginsWith}
use Rattle.ira_ring_setup.specs.Run.{Run, IsRun}
use Rattle.ira_ring_threads.specs.NodeFrames.{frames, last_taken, frames_put, frames_taken}
use Rattle.ira_ring_threads.specs.FinishedNode.{FinishedNode, AreFinishedOnRing, FramesPassRoundRing}
use Rattle.ira_ring_setup.specs.ShownEnd.{Says, IsShown}
use Rattle.ira_ring_setup.specs.Recording.{EndsAs, IsRecorded, IsRecording}
use Rattle.ira_ring_setup.proofs.GoingOn.{AreRunsOf, linked_runs, not_all_wait}
use Rattle.ira_ring_setup.proofs.Places.{get_map, get_within}
use Rattle.ira_ring_threads.proofs.FinishedNodes.{finished_at, passed_at, place_count}

-- loads that were taken, and then any frames, begin the loads that were put, and a Stop
got_of_put : (gs ss : List Load) (rest left : List Frame) → (frames gs ++ rest) ++ left ≡ frames ss ++ Stop ∷ []
    → BeginsWith ss gs
got_of_put [] ss rest left e = (ss, refl)
got_of_put (g ∷ gs) [] rest left e = absurd cc
got_of_put (g ∷ gs) (s ∷ ss) rest left e =
    let tails : (frames gs ++ rest) ++ left ≡ frames ss ++ Stop ∷ [] = cc in
    let p = got_of_put gs ss rest left tails in
    let heads : g ≡ s = cc in
    let q : ss ≡ gs ++ p.0 = p.1 in
    (p.0, cc)

-- a Stop that was taken is the one Stop that was put: all loads were taken
all_of_put : (gs ss : List Load) (left : List Frame) → (frames gs ++ Stop ∷ []) ++ left ≡ frames ss ++ Stop ∷ []
    → gs ≡ ss
all_of_put [] [] left e = refl
all_of_put [] (s ∷ ss) left e = absurd cc
all_of_put (g ∷ gs) [] left e = absurd cc
all_of_put (g ∷ gs) (s ∷ ss) left e =
    let tails : (frames gs ++ Stop ∷ []) ++ left ≡ frames ss ++ Stop ∷ [] = cc in
    let rest = all_of_put gs ss left tails in
    let heads : g ≡ s = cc in
    cc

-- what an end says of a node's own log, and the frames on the link that it read, show the end
shown : (s : Setup) (i : ℕ) (state : NodeState) (events : List Event) (sendings : List Load) (left : List Frame)
    (end : NodeEnd) → EndsAs s.nodes s.cap s.terms (node_draws s i) state events end
    → frames_taken events end ++ left ≡ frames sendings ++ Stop ∷ [] → Says s i state events sendings end
shown s i state events sendings left Leader h e = h
shown s i state events sendings left LogFull h e = h
shown s i state events sendings left DrawsSpent h e = h
shown s i state events sendings left (NoStep l) h e =
    let one : frames (got events ++ l ∷ []) ++ [] ≡ frames (got events) ++ Loaded l ∷ [] =
    append-nil (frames (got events ++ l ∷ [])) ∙ map-append Loaded (got events) (l ∷ []) in
    (h.0, h.1, got_of_put (got events ++ l ∷ []) sendings [] left (ap (λ (fs : List Frame). fs ++ left) one ∙ e))
shown s i state events sendings left Stopped h e = (h, all_of_put (got events) sendings left e)
shown s i state events sendings left Quiet h e = absurd h

-- what the node of a place recorded
recorded_at : (s : Setup) (finished_nodes : List FinishedNode) (i : ℕ) (d : FinishedNode)
    → AreFinishedOnRing s finished_nodes → slice_get finished_nodes i ≡ Some d
    → IsRecorded s.nodes i (is_initiator s i) (node_draws s i) s.cap s.terms d.log d.end
recorded_at s finished_nodes i d ring at =
    let h = finished_at s 0 s.nodes ring.0 ring.0 finished_nodes i d ring.1 at in
    let place : h.0.place ≡ i = omega (arith, h.2) in
    let P : Setup × ℕ → Type 0 =
    λ z. IsRecorded z.0.nodes z.1 (is_initiator z.0 z.1) (node_draws z.0 z.1) z.0.cap z.0.terms d.log d.end in
    subst P (λ j. (h.1 j, place j)) h.3.recorded

-- the frames on the link that leads to it: those that it took begin those that the node before it put
link_at : (s : Setup) (finished_nodes : List FinishedNode) (i : ℕ) (p d : FinishedNode)
    → AreFinishedOnRing s finished_nodes → FramesPassRoundRing finished_nodes → slice_get finished_nodes i ≡ Some d
    → slice_get finished_nodes (prev s.nodes i) ≡ Some p
    → IsPrefix (frames_taken d.log.events d.end) (frames_put p.log.events)
link_at s finished_nodes i p d ring passed at before =
    let reader = finished_at s 0 s.nodes ring.0 ring.0 finished_nodes i d ring.1 at in
    let writer = finished_at s 0 s.nodes ring.0 ring.0 finished_nodes (prev s.nodes i) p ring.1 before in
    let many : s.nodes ≡ length finished_nodes =
    omega (arith, place_count s 0 s.nodes ring.0 ring.0 finished_nodes ring.1) in
    let P : List Frame × List Frame → Type 0 = λ z. IsPrefix z.0 z.1 in
    subst P (λ j. (reader.3.taken j, writer.3.put j)) (passed_at s.nodes finished_nodes i p d many passed at before)

local_run : (n : ℕ) (kind : Bool) (log : Log) (state : NodeState) → log.nodes ≡ n → log.initiator ≡ kind
    → LeadsTo n (first_state kind) log.events state → IsLocalRun log
local_run n kind log state nodes is h =
    let P : ℕ × Bool → Type 0 = λ z. LeadsTo z.0 (first_state z.1) log.events state in
    (state, subst P (λ j. (sym nodes j, sym is j)) h)

-- the log and the end of a place, and the log of the place before it
pub record At (s : Setup) (finished_nodes : List FinishedNode) (run : Run) (i : ℕ) (d : FinishedNode) : Type 0 where
  pub recorded : IsRecorded s.nodes i (is_initiator s i) (node_draws s i) s.cap s.terms d.log d.end
  pub events : log_of run.logs i ≡ d.log.events
  pub before : FinishedNode
  pub sendings : log_of run.logs (prev s.nodes i) ≡ before.log.events
  pub link : IsPrefix (frames_taken d.log.events d.end) (frames_put before.log.events)

logged : (finished_nodes : List FinishedNode) (run : Run) (i : ℕ) (d : FinishedNode)
    → run.logs ≡ map (λ finished. finished.log) finished_nodes → slice_get finished_nodes i ≡ Some d
    → log_of run.logs i ≡ d.log.events
logged finished_nodes run i d logs at =
    ap (λ ls. events_of (slice_get ls i)) logs
    ∙ ap (λ o. events_of o) (slice_get-map (λ finished. finished.log) finished_nodes i
    ∙ ap (λ (o : Option FinishedNode). option_map (λ (finished : FinishedNode). finished.log) o) at)

all_at : (s : Setup) (finished_nodes : List FinishedNode) (run : Run) (i : ℕ) (d : FinishedNode)
    → AreFinishedOnRing s finished_nodes → FramesPassRoundRing finished_nodes
    → run.logs ≡ map (λ finished. finished.log) finished_nodes → slice_get finished_nodes i ≡ Some d
    → At s finished_nodes run i d
all_at s finished_nodes run i d ring passed logs at =
    let many : s.nodes ≡ length finished_nodes =
    omega (arith, place_count s 0 s.nodes ring.0 ring.0 finished_nodes ring.1) in
    let l : i < s.nodes = omega (arith, many, slice_get_within finished_nodes i d at) in
    let p = get_within finished_nodes (prev s.nodes i) (omega (arith, many, prev_below s.nodes i l)) in
    record {
      recorded = recorded_at s finished_nodes i d ring at;
      events = logged finished_nodes run i d logs at;
      before = p.0;
      sendings = logged finished_nodes run (prev s.nodes i) p.0 logs p.1;
      link = link_at s finished_nodes i p.0 d ring passed at p.1;
    }

shown_at : (s : Setup) (finished_nodes : List FinishedNode) (run : Run) (i : ℕ) (d : FinishedNode)
    → At s finished_nodes run i d → IsShown s run.logs i d.end
shown_at s finished_nodes run i d h =
    let rec = h.recorded in
    let P : List Event × List Event → Type 0 = λ z. (state : NodeState)
    × LeadsTo s.nodes (first_state (is_initiator s i)) z.0 state × Says s i state z.0 (sent z.1) d.end in
    subst P (λ j. (sym h.events j, sym h.sendings j)) (
      rec.state,
      rec.run,
      shown s i rec.state d.log.events (sent h.before.log.events) h.link.0 d.end rec.end h.link.1,
    )

linked_at : (s : Setup) (finished_nodes : List FinishedNode) (run : Run) (i : ℕ) (d : FinishedNode)
    → At s finished_nodes run i d → BeginsWith (sent (log_of run.logs (prev s.nodes i))) (got d.log.events)
linked_at s finished_nodes run i d h =
    let P : List Event → Type 0 = λ es. BeginsWith (sent es) (got d.log.events) in
    subst P (sym h.sendings) (got_of_put (got d.log.events) (sent h.before.log.events) (last_taken d.end) h.link.0
    h.link.1)

finished_logs : (s : Setup) (finished_nodes : List FinishedNode) (run : Run) → AreFinishedOnRing s finished_nodes
    → FramesPassRoundRing finished_nodes → run.logs ≡ map (λ finished. finished.log) finished_nodes → (i : ℕ) (log : Log)
    → slice_get run.logs i ≡ Some log → (d : FinishedNode) × At s finished_nodes run i d × (d.log ≡ log)
finished_logs s finished_nodes run ring passed logs i log there =
    let p = get_map (λ finished. finished.log) finished_nodes i log (ap (λ ls. slice_get ls i) (sym logs) ∙ there) in
    (p.0, all_at s finished_nodes run i p.0 ring passed logs p.1, p.2)

-- what they recorded, whatever their logs are valid for
finished_runs : (s : Setup) (finished_nodes : List FinishedNode) (run : Run) → AreFinishedOnRing s finished_nodes
    → FramesPassRoundRing finished_nodes → run.logs ≡ map (λ finished. finished.log) finished_nodes
    → AreRunsOf s run.logs
    × EachLog run.logs (λ i log. BeginsWith (sent (log_of run.logs (prev s.nodes i))) (got log.events))
finished_runs s finished_nodes run ring passed logs =
    let many : s.nodes ≡ length finished_nodes =
    omega (arith, place_count s 0 s.nodes ring.0 ring.0 finished_nodes ring.1) in
    let at = finished_logs s finished_nodes run ring passed logs in
    let number : length run.logs ≡ s.nodes =
    ap length logs ∙ length-map finished_nodes (λ finished. finished.log) ∙ sym many in
    let links : EachLog run.logs (λ i log. BeginsWith (sent (log_of run.logs (prev s.nodes i))) (got log.events)) =
    λ i log there. (let p = at i log there in
    subst (λ (x : Log). BeginsWith (sent (log_of run.logs (prev s.nodes i))) (got x.events)) p.2
    (linked_at s finished_nodes run i p.0 p.1)) in (
      linked_runs s run.logs number
          (λ i log there. (let p = at i log there in subst (λ (x : Log). x.nodes ≡ s.nodes) p.2 p.1.recorded.nodes))
          (λ i log there. (let p = at i log there in
          subst (λ (x : Log). x.initiator ≡ is_initiator s i) p.2 p.1.recorded.kind))
          (λ i log there. (let p = at i log there in
          let rec = p.1.recorded in
          subst IsLocalRun p.2 (local_run s.nodes (is_initiator s i) p.0.log rec.state rec.nodes rec.kind rec.run)))
          links,
      links,
    )

-- not every node ended because the one before it had
pub not_all_stopped : (s : Setup) (finished_nodes : List FinishedNode) → KeepsRules s → AreFinishedOnRing s finished_nodes
    → FramesPassRoundRing finished_nodes
    → ((i : ℕ) (d : FinishedNode) → slice_get finished_nodes i ≡ Some d → d.end ≡ Stopped) → ⊥
not_all_stopped s finished_nodes keeps ring passed stopped =
    let run : Run = record {
      logs = map (λ finished. finished.log) finished_nodes;
      ends = map (λ finished. finished.end) finished_nodes;
    } in
    let many : s.nodes ≡ length finished_nodes =
    omega (arith, place_count s 0 s.nodes ring.0 ring.0 finished_nodes ring.1) in
    not_all_wait s run.logs keeps (finished_runs s finished_nodes run ring passed refl).0 (λ i li.
    (let d = get_within finished_nodes i (omega (arith, many)) in
    subst (λ (e : NodeEnd). IsShown s run.logs i e) (stopped i d.0 d.1)
    (shown_at s finished_nodes run i d.0 (all_at s finished_nodes run i d.0 ring passed refl d.1))))

pub is_recording : (s : Setup) (finished_nodes : List FinishedNode) (run : Run) → IsRun run
    → AreFinishedOnRing s finished_nodes → FramesPassRoundRing finished_nodes
    → run.logs ≡ map (λ finished. finished.log) finished_nodes
    → run.ends ≡ map (λ finished. finished.end) finished_nodes → IsRecording s run
is_recording s finished_nodes run valid ring passed logs ends =
    let runs = finished_runs s finished_nodes run ring passed logs in
    let at = finished_logs s finished_nodes run ring passed logs in
    let end_at : (i : ℕ) (end : NodeEnd) → slice_get run.ends i ≡ Some end → (d : FinishedNode)
    × At s finished_nodes run i d × (d.end ≡ end) =
    λ i end there. (let p = get_map (λ finished. finished.end) finished_nodes i end
    (ap (λ es. slice_get es i) (sym ends) ∙ there) in
    (p.0, all_at s finished_nodes run i p.0 ring passed logs p.1, p.2)) in
    record {
      logs = record {
        ring = valid.logs;
        number = runs.0.number;
        versions = λ i log there. (let p = at i log there in
            subst (λ (x : Log). x.version ≡ version_of s.nodes s.terms) p.2 p.1.recorded.version);
        kinds = runs.0.kinds;
      };
      runs = runs.0.local;
      counts = λ i log there. (let p = at i log there in
          subst (λ (x : Log). length x.events ≤ s.cap) p.2 p.1.recorded.count);
      draws = λ i log there. (let p = at i log there in
          subst (λ (x : Log). BeginsWith (node_draws s i) (drawn x.events)) p.2 p.1.recorded.draws);
      yields = λ i log there. (let p = at i log there in
          subst (λ (x : Log). YieldsBelow s.terms s.nodes (first_state (is_initiator s i)) x.events) p.2
          p.1.recorded.yields);
      links = runs.1;
      many = valid.ends ∙ runs.0.number;
      ends = λ i end there. (let p = end_at i end there in
          subst (λ (x : NodeEnd). IsShown s run.logs i x) p.2 (shown_at s finished_nodes run i p.0 p.1));
      none_quiet = λ i there. (let p = end_at i Quiet there in
          let rec = p.1.recorded in
          subst (λ (x : NodeEnd). EndsAs s.nodes s.cap s.terms (node_draws s i) rec.state p.0.log.events x) p.2 rec.end);
    }
