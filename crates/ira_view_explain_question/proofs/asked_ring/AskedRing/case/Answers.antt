use Rattle.std.proofs.Common.{◌∙◌, List, Some, ap, arith, get_or, subst, sym}
use Rattle.std.proofs.lemmas.Option.{slice_get-get_or}
use Rattle.ira_cert.proofs.Exactly.{rising_differ}
use Rattle.ira_pred.specs.Case.{Conjunct, IsCase}
use Rattle.ira_view_explain_question.proofs.asked_ring.AskedRing.case.Goals as goal

pub invariant_of-result-clause-is_there : goal.invariant_of-result-clause-is_there
invariant_of-result-clause-is_there g c =
    let case = c.index-cases-number.result in
    let same = c.cases-cases.ensures.value in
    let read = c.index-cases-number.is ∙ ap (λ (xs : List (List Conjunct)). get_or xs c.args.number case) same in
    slice_get-get_or c.args.self.now.asked.now.question.cases c.args.number case c.requires
    ∙ ap (λ (x : List Conjunct). Some x) (sym read)

pub invariant_of-result-clause-in_ring : goal.invariant_of-result-clause-in_ring
invariant_of-result-clause-in_ring g c =
    let case = c.index-cases-number.result in
    let same = c.cases-cases.ensures.value in
    let read = c.index-cases-number.is ∙ ap (λ (xs : List (List Conjunct)). get_or xs c.args.number case) same in
    c.cases-cases.ensures.places c.args.number case
    (slice_get-get_or c.args.self.now.asked.now.question.cases c.args.number case c.requires
    ∙ ap (λ (x : List Conjunct). Some x) (sym read))

pub invariant_of-result-clause-different : goal.invariant_of-result-clause-different
invariant_of-result-clause-different g c =
    let question = c.args.self.now.asked.now.question in
    let case = c.index-cases-number.result in
    let same = c.cases-cases.ensures.value in
    let read = c.index-cases-number.is ∙ ap (λ (xs : List (List Conjunct)). get_or xs c.args.number case) same in
    let is : IsCase question.nodes case =
    subst (λ (x : List Conjunct). IsCase question.nodes x) (sym read)
    (c.cases-cases.ensures.valid.cases_are c.args.number case c.requires) in
    rising_differ case is.conjuncts_are.rising

pub invariant_of-result-clause-lines_are : goal.invariant_of-result-clause-lines_are
invariant_of-result-clause-lines_are g c =
    ∣ c.from_line.ensures (omega (arith, c.first_line-first.ensures.value)) ∣₁
