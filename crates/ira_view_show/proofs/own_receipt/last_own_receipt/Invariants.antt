use Rattle.std.proofs.Common.{◌≡◌, None, Some}
use Rattle.ira_node.specs.NodeState.{first_state}
use Rattle.ira_replay.specs.StatesLeft.{states_left}
use Rattle.ira_view_show.proofs.OwnReceipts.{latest, own_after}
use Rattle.ira_view_show.proofs.own_receipt.last_own_receipt.Given as goal

abbrev pub invariant-loop-events : goal.invariant-loop-events
invariant-loop-events g l =
    latest (own_after l.log) l.last l.events-iterator
    ≡ latest (own_after l.log) None (states_left l.log.nodes (Some (0, first_state l.log.initiator)) l.log.events)
