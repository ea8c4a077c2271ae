use Rattle.std.proofs.Common.{◌≡◌, ◌∙◌, Some, inl, inr, slice_get, subst, arith}
use Rattle.std.proofs.lemmas.Bool.{cases_eq}
use Rattle.ira_cert.proofs.CaseQueues.{conjunct_there, none_asked, place_at}
use Rattle.ira_cert.proofs.Exactly.{rising_differ}
use Rattle.ira_cert.proofs.conjuncts.number_at.Goals as goal

pub loop-n-preserved : goal.loop-n-preserved
loop-n-preserved g c = λ k d l at here. elim (cases_eq k c.loop-n.n) [
  | inl same ↦ (let at_n = subst (λ j. slice_get c.args.case.now j ≡ Some d) same at in
      c.if-place.false (place_at c.args.case.now c.loop-n.n c.place.result d c.place.ensures at_n ∙ here))
  | inr other ↦ c.loop-n.invariant k d (omega arith) at here
]

pub returns-then-place-clause-different : goal.returns-then-place-clause-different
returns-then-place-clause-different g c = rising_differ c.args.case.now c.len-n-end.ensures.valid.2.conjuncts_are.rising

pub returns-then-place-clause-found : goal.returns-then-place-clause-found
returns-then-place-clause-found g c = let h =
    conjunct_there c.args.case.now c.loop-n.n c.place.result c.place.ensures in (h.0, h.1, h.2 ∙ c.if-place.true)

pub returns-clause-different : goal.returns-clause-different
returns-clause-different g c = rising_differ c.args.case.now c.len-n-end.ensures.valid.2.conjuncts_are.rising

pub returns-clause-found : goal.returns-clause-found
returns-clause-found g c =
    none_asked c.args.case.now c.args.place (λ k d l at.
    c.loop-n.invariant k d (omega (arith, c.len-n-end.ensures.value)) at)
