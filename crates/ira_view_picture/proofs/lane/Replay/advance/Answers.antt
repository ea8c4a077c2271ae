use Rattle.std.proofs.Common.{◌≡◌, ◌+◌, ◌-◌, Some, arith, refl}
use Rattle.std.specs.Prelude.{slice_get}
use Rattle.ira_node.specs.NodeStep.{NodeStep}
use Rattle.ira_node.specs.NodeStepFault.{NodeStepFault}
use Rattle.ira_view_trail.proofs.Reached.{reaches_more, stops_here}
use Rattle.ira_view_picture.proofs.Replays.{goes_on, still_going}
use Rattle.ira_view_picture.proofs.lane.Replay.advance.Goals as goal

pub overflow_add-position : goal.overflow_add-position
overflow_add-position g c = omega (arith, c.requires.room)

pub returns-in-Ok-clause-replayed : goal.returns-in-Ok-clause-replayed
returns-in-Ok-clause-replayed g c =
    let n = c.args.self.now.events in
    let back : c.args.self.now.events + 1 - 1 ≡ c.args.self.now.events = omega arith in
    let at : slice_get c.args.log.now.events c.args.self.now.events ≡ Some c.event-event.result =
    rw back at c.event-event.ensures in
    let step : NodeStep c.args.log.now.nodes c.args.self.now.end c.event-event.result c.advance.new.self =
    rw c.nodes.ensures at c.in-Ok.ensures.steps in
    let reached = still_going c.args.log.now n c.args.self.now.end c.args.self.now.first_fault c.if-is_some.ensures
    c.requires.replayed in
    goes_on c.args.log.now (n + 1) c.advance.new.self c.args.self.now.first_fault c.if-is_some.ensures
    (reaches_more c.args.log.now n c.args.self.now.end c.event-event.result reached at c.advance.new.self step)

pub returns-in-Ok-clause-known : goal.returns-in-Ok-clause-known
returns-in-Ok-clause-known g c =
    let n = c.args.self.now.events in
    let back : c.args.self.now.events + 1 - 1 ≡ c.args.self.now.events = omega arith in
    let at : slice_get c.args.log.now.events c.args.self.now.events ≡ Some c.event-event.result =
    rw back at c.event-event.ensures in
    let step : NodeStep c.args.log.now.nodes c.args.self.now.end c.event-event.result c.advance.new.self =
    rw c.nodes.ensures at c.in-Ok.ensures.steps in
    let reached = still_going c.args.log.now n c.args.self.now.end c.args.self.now.first_fault c.if-is_some.ensures
    c.requires.replayed in
    reaches_more c.args.log.now n c.args.self.now.end c.event-event.result reached at c.advance.new.self step

pub returns-in-Err-clause-replayed : goal.returns-in-Err-clause-replayed
returns-in-Err-clause-replayed g c =
    let n = c.args.self.now.events in
    let back : c.args.self.now.events + 1 - 1 ≡ c.args.self.now.events = omega arith in
    let at : slice_get c.args.log.now.events c.args.self.now.events ≡ Some c.event-event.result =
    rw back at c.event-event.ensures in
    let fault : NodeStepFault c.args.log.now.nodes c.args.self.now.end c.event-event.result c.in-Err.fault =
    rw c.nodes.ensures at c.in-Err.ensures.steps in
    let reached = still_going c.args.log.now n c.args.self.now.end c.args.self.now.first_fault c.if-is_some.ensures
    c.requires.replayed in (
      stops_here c.args.log.now n c.args.self.now.end c.event-event.result reached at c.in-Err.fault fault,
      omega arith,
      rw (back, c.in-Err.ensures.err) reached,
    )

pub returns-in-Err-clause-known : goal.returns-in-Err-clause-known
returns-in-Err-clause-known g c =
    let n = c.args.self.now.events in
    let back : c.args.self.now.events + 1 - 1 ≡ c.args.self.now.events = omega arith in
    let at : slice_get c.args.log.now.events c.args.self.now.events ≡ Some c.event-event.result =
    rw back at c.event-event.ensures in
    let fault : NodeStepFault c.args.log.now.nodes c.args.self.now.end c.event-event.result c.in-Err.fault =
    rw c.nodes.ensures at c.in-Err.ensures.steps in
    let reached = still_going c.args.log.now n c.args.self.now.end c.args.self.now.first_fault c.if-is_some.ensures
    c.requires.replayed in (
      record { position = n + 1; fault = c.in-Err.fault },
      stops_here c.args.log.now n c.args.self.now.end c.event-event.result reached at c.in-Err.fault fault,
      refl,
    )
