use Rattle.std.proofs.Common.{ap, ◌∙◌}
use Rattle.ira_ring_setup.specs.Setup.{Setup}
use Rattle.ira_ring_alone.proofs.LoneTurnsOn.{IsOnward, onward}
use Rattle.ira_ring_alone.proofs.lone_ring.LoneRing.run.Goals as goal

pub loop-least-smaller : goal.loop-least-smaller
loop-least-smaller g c =
    (onward c.args.self.now.setup.now c.loop-least.self.setup.now c.turn.new.self.setup.now c.get-nodes.result
    c.loop-least.self.nodes.items c.turn.new.self.nodes.items c.loop-least.least c.least_after-least.result
    c.in_ok-sent.sent
    c.requires.rules c.loop-least.invariant.setup c.in_ok-sent.ensures.setup (c.get-nodes.ensures.value
    ∙ ap (λ (s : Setup). s.nodes) c.setup.view_is)
    c.loop-least.invariant.reached c.loop-least-test.true c.loop-least.invariant.ended c.in_ok-sent.ensures.turn
    c.least_after-least.ensures).less

pub loop-least-preserved : goal.loop-least-preserved
loop-least-preserved g c =
    let on : IsOnward c.args.self.now.setup.now c.loop-least.self.setup.now c.turn.new.self.setup.now
    c.loop-least.self.nodes.items c.turn.new.self.nodes.items c.loop-least.least c.least_after-least.result =
    onward c.args.self.now.setup.now c.loop-least.self.setup.now c.turn.new.self.setup.now c.get-nodes.result
    c.loop-least.self.nodes.items c.turn.new.self.nodes.items c.loop-least.least c.least_after-least.result
    c.in_ok-sent.sent
    c.requires.rules c.loop-least.invariant.setup c.in_ok-sent.ensures.setup (c.get-nodes.ensures.value
    ∙ ap (λ (s : Setup). s.nodes) c.setup.view_is)
    c.loop-least.invariant.reached c.loop-least-test.true c.loop-least.invariant.ended c.in_ok-sent.ensures.turn
    c.least_after-least.ensures in
    record { setup = on.setup; reached = on.reached; within = on.within; ended = on.ended }
