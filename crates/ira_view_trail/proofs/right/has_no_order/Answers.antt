use Rattle.std.proofs.Common.{◌≡◌, ◌∙◌, Err, ap, rules}
use Rattle.ira_order.specs.declared.order_fault.OrderFault.TheVariants.{Circle, Match}
use Rattle.ira_order.proofs.Faults.{unmatched}
use Rattle.ira_view_trail.proofs.right.has_no_order.Goals.{in-Err-Circle, in-Err-Match, in-Err-OutOfMemory, in-Ok}
use Rattle.ira_view_trail.proofs.right.has_no_order.Goals as goal

pub returns : goal.returns
returns g c = elim c.match-find_order.branch [
  | in-Ok w ↦ rw w.result-is (search rules)
  | in-Err-Match w ↦
      let is : c.find_order.result ≡ Err (Match w.in-Err-Match.field-0-0) =
      w.in-Err-Match.is ∙ ap Err w.in-Err-Match.field-0-is in
      rw w.result-is (λ yes has. unmatched c.args.logs.now w.in-Err-Match.field-0-0
      ((c.find_order.ensures.matching w.in-Err-Match.field-0-0).0 is) has.0)
  | in-Err-Circle w ↦
      let is : c.find_order.result ≡ Err Circle = w.in-Err-Circle.is ∙ ap Err w.in-Err-Circle.field-0-is in
      rw w.result-is (λ yes has. ((c.find_order.ensures.circle (λ q. (let z : ⊥ = cc in z))).0 is).1 has.1 has.2)
  | in-Err-OutOfMemory w ↦ rw w.result-is (search rules)
]
