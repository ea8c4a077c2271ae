use Rattle.std.proofs.Common.{◌≡◌, ◌∙◌, refl, subst, sym}
use Rattle.ira_order.specs.Cut.{IsConsistentCut}
use Rattle.ira_view.proofs.find_moment.first_moment.Goals as goal

pub returns-in_default-clause-first : goal.returns-in_default-clause-first
returns-in_default-clause-first g c = (rw c.in_default.is at c.in_ok-number.ensures.found, refl)

pub returns-clause-first : goal.returns-clause-first
returns-clause-first g c =
    let items : c.in_ok-to_vec.field-0.items ≡ c.in-Some.cut =
    c.in_ok-to_vec.ensures.items_if_clones_equal (λ x y e. e) ∙ c.positions.ensures in
    let found = rw c.in-Some.is at c.in_ok-number.ensures.found in
    rw (items, c.into_question.ensures) found.2

pub returns-clause-moment : goal.returns-clause-moment
returns-clause-moment g c =
    let items : c.in_ok-to_vec.field-0.items ≡ c.in-Some.cut =
    c.in_ok-to_vec.ensures.items_if_clones_equal (λ x y e. e) ∙ c.positions.ensures in
    let found = rw c.in-Some.is at c.in_ok-number.ensures.found in (
      λ cut at.
          let same : c.in_ok-to_vec.field-0.items ≡ cut = cc in
          subst (IsConsistentCut c.args.asked.logs) (sym items ∙ same) found.1,
      rw c.into_question.ensures found.0,
    )
