use Rattle.std.proofs.Common.{◌≡◌, arith, length, subst, IsTrue, nat_eq, [], ◌∷◌}
use Rattle.std.specs.Prelude.{◌↔◌}
use Rattle.ira_pred.specs.Case.{Conjunct}
use Rattle.ira_ask.proofs.Probes.{one_clause}
use Rattle.ira_ask.proofs.is_clause.asks_one_clause.Goals as goal

pub returns-in-len1 : goal.returns-in-len1
returns-in-len1 g c =
    let long : length c.cases.result.now ≡ 1 = omega (arith, c.in-len1.len_at_least, c.in-len1.len_below) in
    let is = one_clause c.cases.result.now c.case-item.result c.len.result long c.case-item.is c.len.ensures.value in
    subst (λ x. IsTrue (nat_eq c.len.result 1) ↔ ((y : Conjunct) × (x ≡ (y ∷ []) ∷ []))) c.cases.ensures.value is
