use Rattle.std.proofs.Common.{◌≡◌, ◌<◌, ◌++◌, ◌∷◌, [], length, get_or, ap, arith}
use Rattle.ira_ring_setup.specs.Setup.{Setup}
use Rattle.ira_ring_alone.proofs.LoneEnds.{ended_at, ends_more, all_ends}
use Rattle.ira_ring_alone.proofs.lone_ring.LoneRing.ends.Goals as goal

pub end-requires : goal.end-requires
end-requires g c =
    let here : c.loop-node.node-index < length c.args.self.now.nodes.items =
    rw c.deref-node-items.ensures.value at c.loop-node-test.true in
    let read : c.node-item.result ≡ get_or c.args.self.now.nodes.items c.loop-node.node-index c.node-item.result =
    rw c.deref-node-items.ensures.value at c.node-item.is in (
      c.args.self.now.setup.now.nodes,
      ended_at c.args.self.now.setup.now c.args.self.now.nodes.items c.loop-node.node-index c.setup.inside.cap
          c.setup.inside.terms _ c.requires.done here (ap (λ (s : Setup). s.cap) c.setup.view_is)
          (ap (λ (s : Setup). s.terms) c.setup.view_is) read,
    )

pub loop-node-preserved : goal.loop-node-preserved
loop-node-preserved g c =
    let here : c.loop-node.node-index < length c.args.self.now.nodes.items =
    rw c.deref-node-items.ensures.value at c.loop-node-test.true in
    let read : c.node-item.result ≡ get_or c.args.self.now.nodes.items c.loop-node.node-index c.node-item.result =
    rw c.deref-node-items.ensures.value at c.node-item.is in
    let pushed : c.push.new.self.items ≡ c.loop-node.ends.items ++ c.end.result ∷ [] = c.in_ok-push.ensures.items in
    record {
      many = omega (arith, c.in_ok-push.ensures.len);
      each = rw pushed (ends_more c.args.self.now.setup.now c.args.self.now.nodes.items c.loop-node.node-index
          c.setup.inside.cap c.setup.inside.terms _ c.loop-node.ends.items c.end.result c.requires.done here
          (ap (λ (s : Setup). s.cap) c.setup.view_is) (ap (λ (s : Setup). s.terms) c.setup.view_is) read
          (c.end.ensures c.args.self.now.setup.now.nodes) c.loop-node.invariant.many c.loop-node.invariant.each);
    }

pub returns : goal.returns
returns g c = all_ends c.args.self.now.setup.now c.args.self.now.nodes.items c.loop-node.ends.items
    (omega (arith, c.deref-node-items.ensures.len)) (λ j l.
    c.loop-node.invariant.each j (omega (arith, c.deref-node-items.ensures.len)))
