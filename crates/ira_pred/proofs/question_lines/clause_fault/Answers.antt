use Rattle.std.proofs.Common.{refl, sym, subst, ◌∙◌, inl, inr}
use Rattle.ira_pred.specs.QuestionTextFault.{IsTooDeep}
use Rattle.ira_pred.proofs.QuestionReading.{cut_here, line_here}
use Rattle.ira_pred.proofs.question_lines.clause_fault.Goals as goal

pub returns-in_default : goal.returns-in_default
returns-in_default c = cut_here _ c.args.text.now _ (sym c.line_end.ensures ∙ c.in_default.is) refl

pub returns-then-is_too_deep : goal.returns-then-is_too_deep
returns-then-is_too_deep c =
    let deep = subst IsTooDeep c.split_at.ensures.front (c.is_too_deep.ensures.0 c.if-is_too_deep.true) in
    line_here _ c.args.text.now c.in-Some.end _ (sym c.line_end.ensures ∙ c.in-Some.is) (λ more. inl (deep, refl))

pub returns : goal.returns
returns c =
    let shallow : ¬ (IsTooDeep c.split_at.result.0.now) = λ deep. let no = c.is_too_deep.ensures.1 deep in
    let is = c.if-is_too_deep.false in cc in
    line_here _ c.args.text.now c.in-Some.end _ (sym c.line_end.ensures ∙ c.in-Some.is) (λ more.
    inr (subst (λ w. ¬ (IsTooDeep w)) c.split_at.ensures.front shallow, refl))
