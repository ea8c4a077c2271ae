use Rattle.std.proofs.Common.{Ok, Err, ap, refl}
use Rattle.ira_order.specs.declared.order_fault.OrderFault.TheVariants.{Circle}
use Rattle.ira_order.specs.OrderPrefix.{OrderPrefix}
use Rattle.ira_order.proofs.Orders.{no_match_fault, circle_answer, no_circle, is_ordered}
use Rattle.ira_order.proofs.Rounds.{no_order}
use Rattle.ira_order.proofs.order_prefix.OrderPrefix.into_order.Goals as goal

pub returns-then-not-is_whole-clause-matching : goal.returns-then-not-is_whole-clause-matching
returns-then-not-is_whole-clause-matching g c =
    no_match_fault c.args.logs.now (Err Circle) c.requires.matches (λ f e. (let z : ⊥ = cc in z))

pub returns-then-not-is_whole-clause-circle : goal.returns-then-not-is_whole-clause-circle
returns-then-not-is_whole-clause-circle g c =
    circle_answer c.args.logs.now (Err Circle) refl (
      c.requires.matches,
      no_order _ _ c.requires.matches c.requires.longest c.if-not-is_whole.ensures,
    )

pub returns-clause-ok : goal.returns-clause-ok
returns-clause-ok g c = rw (ap (λ (p : OrderPrefix). p.places) c.self.view_is)
    (is_ordered _ _ c.requires.matches c.requires.longest.prefix c.if-not-is_whole.ensures)

pub returns-clause-matching : goal.returns-clause-matching
returns-clause-matching g c =
    no_match_fault c.args.logs.now (Ok c.self.inside.places) c.requires.matches (λ f e. (let z : ⊥ = cc in z))

pub returns-clause-circle : goal.returns-clause-circle
returns-clause-circle g c =
    no_circle c.args.logs.now (Ok c.self.inside.places) c.self.inside.places _ refl
    (is_ordered _ _ c.requires.matches c.requires.longest.prefix c.if-not-is_whole.ensures).order
