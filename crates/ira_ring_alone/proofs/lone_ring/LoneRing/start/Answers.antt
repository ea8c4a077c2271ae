use Rattle.std.proofs.Common.{◌≡◌, ◌∙◌, ◌++◌, ◌∷◌, [], ap, arith}
use Rattle.ira_ring_setup.specs.Setup.{Setup}
use Rattle.ira_ring_alone.proofs.LoneStarts.{started, first_more}
use Rattle.ira_ring_alone.proofs.lone_ring.LoneRing.start.Goals as goal

pub loop-i-preserved : goal.loop-i-preserved
loop-i-preserved g c =
    let pushed : c.push.new.self.items ≡ c.loop-i.nodes.items ++ c.in_ok-first.field-0 ∷ [] =
    c.in_ok-push.ensures.items in
    record {
      many = omega (arith, c.in_ok-push.ensures.len);
      each = rw pushed (first_more (λ v. v.items) c.setup.inside.nodes _ _ _ _ c.args.setup.now c.loop-i.i _ _ _ _
          c.setup.view_is c.requires (omega (arith, c.get.ensures.value)) c.index.ensures c.index-in-loop-i.ensures
          (rw c.deref.ensures.value at c.in_ok-first.ensures) c.loop-i.invariant.many c.loop-i.invariant.each);
    }

pub returns-clause-reached : goal.returns-clause-reached
returns-clause-reached g c =
    let size : c.from-size.result ≡ c.args.setup.now.nodes =
    c.from-size.ensures ∙ c.get.ensures.value ∙ ap (λ (s : Setup). s.nodes) c.setup.view_is in
    started c.args.setup.now c.loop-i.nodes.items (omega arith) (λ i l. c.loop-i.invariant.each i (omega arith))
