use Rattle.std.proofs.Common.{◌≡◌, Ok, rules}
use Rattle.ira_node.specs.NodeState.{first_state}
use Rattle.ira_replay.specs.StatesLeft.{replayed}
use Rattle.ira_replay.proofs.Along.{leads_exactly, stops_exactly}
use Rattle.ira_replay.proofs.replay_log.replay.Goals as goal

pub returns-in_err-map_err-clause-ok : goal.returns-in_err-map_err-clause-ok
returns-in_err-map_err-clause-ok g c =
    let value : c.from_residual.result
    ≡ replayed c.args.log.now.nodes 0 (Ok (first_state c.args.log.now.initiator)) c.args.log.now.events =
    search rules in
    leads_exactly _ _ _ _ value

pub returns-in_err-map_err-clause-err : goal.returns-in_err-map_err-clause-err
returns-in_err-map_err-clause-err g c =
    let value : c.from_residual.result
    ≡ replayed c.args.log.now.nodes 0 (Ok (first_state c.args.log.now.initiator)) c.args.log.now.events =
    search rules in
    stops_exactly _ _ _ _ value

pub returns-clause-ok : goal.returns-clause-ok
returns-clause-ok g c =
    let value : Ok c.loop-event.state
    ≡ replayed c.args.log.now.nodes 0 (Ok (first_state c.args.log.now.initiator)) c.args.log.now.events =
    search rules in
    leads_exactly _ _ _ _ value

pub returns-clause-err : goal.returns-clause-err
returns-clause-err g c =
    let value : Ok c.loop-event.state
    ≡ replayed c.args.log.now.nodes 0 (Ok (first_state c.args.log.now.initiator)) c.args.log.now.events =
    search rules in
    stops_exactly _ _ _ _ value
