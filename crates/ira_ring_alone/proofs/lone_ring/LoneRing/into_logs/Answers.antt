use Rattle.std.proofs.Common.{◌≡◌, ◌∙◌, ◌++◌, ◌∷◌, [], length, sym, subst, ap, arith}
use Rattle.ira_event.specs.Log.{IsLog}
use Rattle.ira_ring_setup.specs.Setup.{Setup}
use Rattle.ira_ring_alone.proofs.LoneLogs.{is_log, first_left, log_is, logs_more, all_logs}
use Rattle.ira_ring_alone.proofs.lone_ring.LoneRing.into_logs.Goals as goal

pub index-initiator-requires : goal.index-initiator-requires
index-initiator-requires g c =
    let left = first_left c.args.self.nodes.items c.loop-node.place c.in-Some.node _ (sym c.in-Some.ensures.steps.0
    ∙ c.loop-node.invariant.rest) in
    let kinds : length c.setup.inside.initiators.items ≡ length c.args.self.setup.now.initiators =
    ap (λ (s : Setup). length s.initiators) c.setup.view_is in
    omega (arith, left.0, kinds, c.requires.rules.lists.0, c.requires.reached.many, c.from.ensures)

pub into_log-requires : goal.into_log-requires
into_log-requires g c =
    let left = first_left c.args.self.nodes.items c.loop-node.place c.in-Some.node _ (sym c.in-Some.ensures.steps.0
    ∙ c.loop-node.invariant.rest) in
    let log = log_is (λ v. v.items) _ _ _ _ _ c.args.self.setup.now c.args.self.nodes.items c.loop-node.place
    c.from.result c.in-Some.node c.index-initiator.result.now c.setup.view_is c.requires.rules c.requires.reached
    left.0 c.from.ensures c.index-initiator.ensures left.1 in
    subst IsLog (sym log) (is_log c.args.self.setup.now c.args.self.nodes.items c.loop-node.place c.requires.rules
    c.requires.reached (omega (arith, left.0, c.requires.reached.many)))

pub loop-node-preserved : goal.loop-node-preserved
loop-node-preserved g c =
    let left = first_left c.args.self.nodes.items c.loop-node.place c.in-Some.node _ (sym c.in-Some.ensures.steps.0
    ∙ c.loop-node.invariant.rest) in
    let log = log_is (λ v. v.items) _ _ _ _ _ c.args.self.setup.now c.args.self.nodes.items c.loop-node.place
    c.from.result c.in-Some.node c.index-initiator.result.now c.setup.view_is c.requires.rules c.requires.reached
    left.0 c.from.ensures c.index-initiator.ensures left.1 in
    let pushed : c.push.new.self.items ≡ c.loop-node.logs.items ++ c.into_log.result ∷ [] =
    c.in_ok-push.ensures.items in
    record {
      rest = left.2;
      left = omega (arith, c.in-Some.ensures.steps.1, c.loop-node.invariant.left);
      many = omega (arith, c.in_ok-push.ensures.len);
      each = rw pushed (logs_more c.args.self.setup.now c.args.self.nodes.items c.loop-node.logs.items c.into_log.result
          c.loop-node.place (c.into_log.ensures ∙ log) c.loop-node.invariant.many c.loop-node.invariant.each);
    }

pub returns : goal.returns
returns g c =
    all_logs c.args.self.setup.now c.args.self.nodes.items c.loop-node.logs.items
    (omega (arith, c.loop-node.invariant.many, c.loop-node.invariant.left, c.in-None.ensures.steps.0))
    (λ j l. c.loop-node.invariant.each j (omega (arith, c.loop-node.invariant.left, c.in-None.ensures.steps.0)))
