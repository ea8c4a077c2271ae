use Rattle.std.proofs.Common.{◌≡◌, ◌∙◌, Some, inl, inr, slice_get, subst, arith}
use Rattle.std.proofs.lemmas.Bool.{cases_eq}
use Rattle.ira_cert.proofs.CaseQueues.{conjunct_there, none_asked, place_at}
use Rattle.ira_view_explain_question.proofs.asked_lines.clause_at.Goals as goal

pub loop-n-preserved : goal.loop-n-preserved
loop-n-preserved g c = λ k d l at here. elim (cases_eq k c.loop-n.n) [
  | inl same ↦ (let at_n = subst (λ j. slice_get c.args.case.now j ≡ Some d) same at in
      c.if-place.false (place_at c.args.case.now c.loop-n.n c.place.result d c.place.ensures at_n ∙ here))
  | inr other ↦ c.loop-n.invariant k d (omega arith) at here
]

pub returns-then-place : goal.returns-then-place
returns-then-place g c =
    let h = conjunct_there c.args.case.now c.loop-n.n c.place.result c.place.ensures in
    (h.0, h.1, h.2 ∙ c.if-place.true)

pub returns : goal.returns
returns g c =
    none_asked c.args.case.now c.args.place (λ k d l at.
    c.loop-n.invariant k d (omega (arith, c.len-n-end.ensures.value)) at)
