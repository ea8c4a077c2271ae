use Rattle.std.proofs.Common.{◌∙◌, arith, sym}
use Rattle.ira_view.proofs.Woken.{begun_awake, never_drew, sleeps, wakes}
use Rattle.ira_view.proofs.run_features.has_wake_up.Goals as goal
use Rattle.ira_view.proofs.run_features.has_wake_up.Goals.{else-not-initiator-via-then-not-initiator+else-node-gt0, else-not-initiator-via-else-not-initiator}

pub returns-then-node-gt0 : goal.returns-then-node-gt0
returns-then-node-gt0 g c =
    sym (wakes c.args.logs.now c.args.end.now c.loop-place.place c.log.result.now c.node.result c.requires
    c.log.ensures.value c.node.ensures (sym c.initiator.ensures ∙ c.if-not-initiator.true)
    (omega (arith, c.if-node-gt0.true)))

pub loop-place-preserved : goal.loop-place-preserved
loop-place-preserved g c =
    let logs = c.args.logs.now in
    let place = c.loop-place.place in
    let log = c.log.result.now in
    elim c.else-not-initiator.branch [
      | else-not-initiator-via-then-not-initiator+else-node-gt0 w ↦
          sleeps logs place log c.log.ensures.value
          (never_drew logs c.args.end.now place log w.node.result c.requires c.log.ensures.value w.node.ensures
          (sym c.initiator.ensures ∙ w.if-not-initiator.true) (omega (arith, w.if-node-gt0.false))) c.loop-place.invariant
      | else-not-initiator-via-else-not-initiator w ↦
          sleeps logs place log c.log.ensures.value (begun_awake log (sym c.initiator.ensures ∙ w.if-not-initiator.false))
          c.loop-place.invariant
    ]
