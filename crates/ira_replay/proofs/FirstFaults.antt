-- A log is a local run or has a first fault, one of the two, and one fault.
use Rattle.std.proofs.Common.{◌≡◌, ◌⊎◌, inl, inr, Result, Ok, Err, refl, sym, ◌∙◌}
use Rattle.ira_event.specs.Log.{Log}
use Rattle.ira_event.proofs.TextsAnswered.{Decided}
use Rattle.ira_event.proofs.Unless.{err_same}
use Rattle.ira_node.specs.NodeState.{first_state}
use Rattle.ira_node.specs.declared.node_state.NodeState.{NodeState}
use Rattle.ira_replay.specs.declared.replay_fault.ReplayFault.{ReplayFault}
use Rattle.ira_replay.specs.LocalRun.{IsLocalRun, IsFirstFault}
use Rattle.ira_replay.specs.StatesLeft.{replayed}
use Rattle.ira_replay.proofs.Along.{leads_exactly, stops_exactly}

-- no log is a local run and has a first fault
pub run_or_fault : (log : Log) (f : ReplayFault) → IsLocalRun log → IsFirstFault log f → ⊥
run_or_fault log f local stops =
    let r = replayed log.nodes 0 (Ok (first_state log.initiator)) log.events in
    let good = (leads_exactly log.nodes (first_state log.initiator) log.events r refl local.0).1 local.1 in
    let bad = (stops_exactly log.nodes (first_state log.initiator) log.events r refl f).1 stops in
    cc

-- a log has one first fault
pub one_stop : (log : Log) (f g : ReplayFault) → IsFirstFault log f → IsFirstFault log g → f ≡ g
one_stop log f g a b =
    let r = replayed log.nodes 0 (Ok (first_state log.initiator)) log.events in
    let one = (stops_exactly log.nodes (first_state log.initiator) log.events r refl f).1 a in
    let two = (stops_exactly log.nodes (first_state log.initiator) log.events r refl g).1 b in
    err_same f g (sym one ∙ two)

pub run_or_stop : (log : Log) → IsLocalRun log ⊎ ((f : ReplayFault) × IsFirstFault log f)
run_or_stop log = by_answer (replayed log.nodes 0 (Ok (first_state log.initiator)) log.events) refl
  where
    by_answer : (r : Result NodeState ReplayFault)
        → r ≡ replayed log.nodes 0 (Ok (first_state log.initiator)) log.events → IsLocalRun log
        ⊎ ((f : ReplayFault) × IsFirstFault log f)
    by_answer (Ok t) is = inl (t, (leads_exactly log.nodes (first_state log.initiator) log.events (Ok t) is t).0 refl)
    by_answer (Err f) is = inr (f, (stops_exactly log.nodes (first_state log.initiator) log.events (Err f) is f).0 refl)

pub is_run : (log : Log) → Decided (IsLocalRun log)
is_run log = elim (run_or_stop log) [ inl run ↦ inl run | inr stop ↦ inr (λ run. run_or_fault log stop.0 run stop.1) ]
