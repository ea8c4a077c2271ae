use Rattle.std.proofs.Common.{◌≡◌, [], ◌∷◌, ◌++◌, List, ℕ, refl, ap, ◌∙◌, arith, sym, subst}
use Rattle.ira_event.specs.Limits.{MAX_NODES}
use Rattle.ira_pred.specs.declared.case.PlacedClause.{PlacedClause}
use Rattle.ira_pred.specs.Formula.{leader}
use Rattle.ira_pred.specs.Case.{IsCaseOfSomeRing}
use Rattle.ira_pred.specs.PlacedClause.{conjunct, conjuncts}
use Rattle.ira_pred.specs.Pairs.{pair_case}
use Rattle.ira_pred.proofs.PairCases.{pair-is-case}
use Rattle.ira_pred.proofs.pairs.pair_case.Goals as goal

-- what two clauses that were pushed ask
two-pushed : {A : Type 0} (xs ys zs : List (PlacedClause A)) (p q : PlacedClause A) (i j : ℕ) → xs ≡ []
    → ys ≡ xs ++ p ∷ [] → zs ≡ ys ++ q ∷ []
    → conjunct p ≡ record { place = i; formula = leader } → conjunct q ≡ record { place = j; formula = leader }
    → conjuncts zs ≡ pair_case i j
two-pushed xs ys zs p q i j none one two is_p is_q =
    ap conjuncts two ∙ ap (λ x. conjuncts (x ++ q ∷ [])) one ∙ ap (λ x. conjuncts ((x ++ p ∷ []) ++ q ∷ [])) none
    ∙ ap (λ x. x ∷ conjunct q ∷ []) is_p
    ∙ ap (λ x. record { place = i; formula = leader } ∷ x ∷ []) is_q

pub of_parts-requires : goal.of_parts-requires
of_parts-requires g c =
    let is = two-pushed _ _ _ _ _ c.args.i c.args.j c.in_ok-clauses.ensures.items c.in_ok-push.ensures.items
    c.in_ok-push-2.ensures.items refl refl in
    subst IsCaseOfSomeRing (sym is) (
      MAX_NODES,
      (omega arith, omega arith),
      pair-is-case MAX_NODES c.args.i c.args.j c.requires.order c.requires.in_ring,
    )
