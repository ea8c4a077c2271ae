use Rattle.std.proofs.Common.{◌≡◌, [], refl, ap, ◌∙◌}
use Rattle.ira_event.specs.Log.{Log}
use Rattle.ira_node.specs.NodeState.{first_state}
use Rattle.ira_replay.specs.LocalRun.{IsLocalRun}
use Rattle.ira_audit.proofs.replayed_log.ReplayedLog.without_events.Goals as goal

empty_run : (log : Log) → log.events ≡ [] → IsLocalRun log
empty_run log none = (first_state log.initiator, rw none refl)

pub invariant_of-result : goal.invariant_of-result
invariant_of-result g c =
    let is = c.of_parts-head.ensures in
    empty_run c.of_parts-head.result (ap (λ (l : Log). l.events) is ∙ c.new-events.ensures.items)
