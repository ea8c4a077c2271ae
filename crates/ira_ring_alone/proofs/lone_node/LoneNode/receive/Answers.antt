use Rattle.std.proofs.Common.{refl, arith}
use Rattle.ira_ring_alone.proofs.LoneNodes.{makes_got, takes_none, finds_none}
use Rattle.ira_ring_alone.proofs.lone_node.LoneNode.receive.Goals as goal

pub returns-in_default : goal.returns-in_default
returns-in_default g c = λ most terms below_cap. (
  finds_none _ most terms _ _ _ _ _ _ c.self.view_is c.requires.state c.requires.wanted below_cap (λ some.
      let none = c.in_default.ensures.variant.1 (omega (arith, some)) in absurd cc),
  refl,
)

pub returns-in_default-step : goal.returns-in_default-step
returns-in_default-step g c =
    λ most terms below_cap. (
      takes_none _ most terms _ _ _ _ _ _ _ c.self.view_is c.requires.state c.requires.wanted below_cap
          c.in-Some.ensures.item.3.0 c.in-Some.ensures.lookup (λ h.
          c.in_default-step.not-Ok h.0 ((c.step.ensures.ok h.0).1 h.1)),
      refl,
    )

pub returns : goal.returns
returns g c = λ most terms below_cap.
    makes_got _ most terms _ _ _ _ _ _ _ _ _ _ c.self.view_is c.requires.state c.requires.wanted below_cap
    c.in-Some.ensures.item.3.0 c.in-Some.ensures.lookup ((c.in-Ok.ensures.ok c.in-Ok.after).0 refl)
    c.in_ok-push.ensures.items c.pop_front.ensures.rest
