use Rattle.std.proofs.Common.{refl}
use Rattle.ira_ring_alone.proofs.LoneNodes.{makes_draw, draws_none}
use Rattle.ira_ring_alone.proofs.lone_node.LoneNode.draw.Goals as goal

pub returns-in_default : goal.returns-in_default
returns-in_default g c = λ most terms below_cap. (
  draws_none _ most terms _ _ _ _ _ _ c.self.view_is c.requires.state c.requires.wanted below_cap
      c.in_default.ensures.cases,
  refl,
)

pub returns : goal.returns
returns g c = λ most terms below_cap.
    makes_draw _ most terms _ _ _ _ _ _ _ _ _ _ c.self.view_is c.requires.state c.requires.wanted below_cap
    c.in-Some.ensures.cases.0 ((c.in-Ok.ensures.ok c.in-Ok.after).0 refl) c.in_ok-push.ensures.items
