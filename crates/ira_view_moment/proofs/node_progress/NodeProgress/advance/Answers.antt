use Rattle.std.proofs.Common.{◌≡◌, ◌≢◌, ◌∙◌, ◌+◌, ◌-◌, Some, ap, arith, refl, rules}
use Rattle.std.specs.Prelude.{slice_get}
use Rattle.ira_event.specs.declared.event.Event.TheVariants.{Draw, Sent, Got, Yield}
use Rattle.ira_event.specs.Messages.{receipt}
use Rattle.ira_node.specs.NodeStep.{NodeStep}
use Rattle.ira_node.specs.NodeStepFault.{NodeStepFault}
use Rattle.ira_view_moment.proofs.Progress.{changes, dropped_more, dropped_over, few_draws, few_loads, no_fault, number_few}
use Rattle.ira_view_moment.proofs.Progress.{progress_more, reaches_more}
use Rattle.ira_view_moment.proofs.node_progress.NodeProgress.advance.Goals as goal

pub unreachable-requires : goal.unreachable-requires
unreachable-requires g c =
    let back : c.args.self.now.events + 1 - 1 ≡ c.args.self.now.events = omega arith in
    let at : slice_get c.args.log.now.events c.args.self.now.events ≡ Some c.event-event.result =
    rw back at c.event-event.ensures in
    let fault : NodeStepFault c.args.log.now.nodes c.args.self.now.state c.event-event.result c.in-Err.field-0 =
    rw c.nodes.ensures at c.in-Err.ensures.steps in
    no_fault c.args.log.now c.args.self.now.events c.args.self.now.state c.event-event.result c.in-Err.field-0
    c.requires.local c.requires.progress.state at fault

pub overflow_add-self-in-Sent : goal.overflow_add-self-in-Sent
overflow_add-self-in-Sent g c =
    omega (
      arith,
      (few_loads c.args.log.now c.args.self.now.events c.args.self.now c.requires.progress).0,
      c.requires.room,
    )

pub overflow_add-self-in-Got : goal.overflow_add-self-in-Got
overflow_add-self-in-Got g c =
    omega (
      arith,
      (few_loads c.args.log.now c.args.self.now.events c.args.self.now c.requires.progress).1,
      c.requires.room,
    )

pub overflow_add-self-in-Draw : goal.overflow_add-self-in-Draw
overflow_add-self-in-Draw g c =
    omega (arith, few_draws c.args.log.now c.args.self.now.events c.args.self.now c.requires.progress, c.requires.room)

pub overflow_add-self-then-eq : goal.overflow_add-self-then-eq
overflow_add-self-then-eq g c = omega (arith, number_few _ _ _ c.requires.progress.dropped, c.requires.room)

pub returns-in-Draw : goal.returns-in-Draw
returns-in-Draw g c =
    let back : c.args.self.now.events + 1 - 1 ≡ c.args.self.now.events = omega arith in
    let at : slice_get c.args.log.now.events c.args.self.now.events ≡ Some c.event-event.result =
    rw back at c.event-event.ensures in
    let step : NodeStep c.args.log.now.nodes c.args.self.now.state c.event-event.result c.advance.new.self =
    rw c.nodes.ensures at c.in-Ok.ensures.steps in
    let reached = reaches_more c.args.log.now c.args.self.now.events c.args.self.now.state c.advance.new.self
    c.event-event.result c.requires.progress.state at step in
    let moved = changes c.args.log.now.nodes c.args.self.now.state c.event-event.result c.advance.new.self
    (ap receipt c.in-Draw.is) step in
    let dropped = dropped_over c.args.log.now c.args.self.now.events c.args.self.now c.advance.new.self
    c.requires.progress reached moved in
    progress_more c.args.log.now c.args.self.now.events (Draw c.in-Draw.field-0) c.args.self.now c.advance.new.self _ _
    _ _ (at ∙ ap Some c.in-Draw.is) c.requires.progress (rw c.in-Draw.is at step) refl (omega arith) (omega arith)
    dropped

pub returns-in-Sent : goal.returns-in-Sent
returns-in-Sent g c =
    let back : c.args.self.now.events + 1 - 1 ≡ c.args.self.now.events = omega arith in
    let at : slice_get c.args.log.now.events c.args.self.now.events ≡ Some c.event-event.result =
    rw back at c.event-event.ensures in
    let step : NodeStep c.args.log.now.nodes c.args.self.now.state c.event-event.result c.advance.new.self =
    rw c.nodes.ensures at c.in-Ok.ensures.steps in
    let reached = reaches_more c.args.log.now c.args.self.now.events c.args.self.now.state c.advance.new.self
    c.event-event.result c.requires.progress.state at step in
    let moved = changes c.args.log.now.nodes c.args.self.now.state c.event-event.result c.advance.new.self
    (ap receipt c.in-Sent.is) step in
    let dropped = dropped_over c.args.log.now c.args.self.now.events c.args.self.now c.advance.new.self
    c.requires.progress reached moved in
    progress_more c.args.log.now c.args.self.now.events (Sent c.in-Sent.field-0) c.args.self.now c.advance.new.self _ _
    _ _ (at ∙ ap Some c.in-Sent.is) c.requires.progress (rw c.in-Sent.is at step) (omega arith) refl (omega arith)
    dropped

pub returns-in-Yield : goal.returns-in-Yield
returns-in-Yield g c =
    let back : c.args.self.now.events + 1 - 1 ≡ c.args.self.now.events = omega arith in
    let at : slice_get c.args.log.now.events c.args.self.now.events ≡ Some c.event-event.result =
    rw back at c.event-event.ensures in
    let step : NodeStep c.args.log.now.nodes c.args.self.now.state c.event-event.result c.advance.new.self =
    rw c.nodes.ensures at c.in-Ok.ensures.steps in
    let reached = reaches_more c.args.log.now c.args.self.now.events c.args.self.now.state c.advance.new.self
    c.event-event.result c.requires.progress.state at step in
    let moved = changes c.args.log.now.nodes c.args.self.now.state c.event-event.result c.advance.new.self
    (ap receipt c.in-Yield.is) step in
    let dropped = dropped_over c.args.log.now c.args.self.now.events c.args.self.now c.advance.new.self
    c.requires.progress reached moved in
    progress_more c.args.log.now c.args.self.now.events Yield c.args.self.now c.advance.new.self _ _ _ _ (at
    ∙ ap Some c.in-Yield.is) c.requires.progress (rw c.in-Yield.is at step) (omega arith) (omega arith)
    (omega arith) dropped

pub returns-then-eq : goal.returns-then-eq
returns-then-eq g c =
    let back : c.args.self.now.events + 1 - 1 ≡ c.args.self.now.events = omega arith in
    let at : slice_get c.args.log.now.events c.args.self.now.events ≡ Some c.event-event.result =
    rw back at c.event-event.ensures in
    let step : NodeStep c.args.log.now.nodes c.args.self.now.state c.event-event.result c.advance.new.self =
    rw c.nodes.ensures at c.in-Ok.ensures.steps in
    let reached = reaches_more c.args.log.now c.args.self.now.events c.args.self.now.state c.advance.new.self
    c.event-event.result c.requires.progress.state at step in
    let same : c.advance.new.self ≡ c.args.self.now.state = search rules in
    let dropped = dropped_more c.args.log.now c.args.self.now.events c.args.self.now c.advance.new.self
    c.requires.progress reached same in
    progress_more c.args.log.now c.args.self.now.events (Got c.in-Got.field-0) c.args.self.now c.advance.new.self _ _ _
    _ (at ∙ ap Some c.in-Got.is) c.requires.progress (rw c.in-Got.is at step) (omega arith) (omega arith) refl
    dropped

pub returns-else-eq : goal.returns-else-eq
returns-else-eq g c =
    let back : c.args.self.now.events + 1 - 1 ≡ c.args.self.now.events = omega arith in
    let at : slice_get c.args.log.now.events c.args.self.now.events ≡ Some c.event-event.result =
    rw back at c.event-event.ensures in
    let step : NodeStep c.args.log.now.nodes c.args.self.now.state c.event-event.result c.advance.new.self =
    rw c.nodes.ensures at c.in-Ok.ensures.steps in
    let reached = reaches_more c.args.log.now c.args.self.now.events c.args.self.now.state c.advance.new.self
    c.event-event.result c.requires.progress.state at step in
    let differs : c.advance.new.self ≢ c.args.self.now.state = search rules in
    let dropped = dropped_over c.args.log.now c.args.self.now.events c.args.self.now c.advance.new.self
    c.requires.progress reached differs in
    progress_more c.args.log.now c.args.self.now.events (Got c.in-Got.field-0) c.args.self.now c.advance.new.self _ _ _
    _ (at ∙ ap Some c.in-Got.is) c.requires.progress (rw c.in-Got.is at step) (omega arith) (omega arith) refl
    dropped
