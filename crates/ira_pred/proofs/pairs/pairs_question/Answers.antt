use Rattle.std.proofs.Common.{◌≡◌, ◌++◌, ◌+◌, ◌-◌, ◌<◌, ◌≤◌, sym, ap, subst, ◌∙◌, arith}
use Rattle.std.specs.List.{flat_map}
use Rattle.std.proofs.lemmas.List.{append-nil}
use Rattle.ira_pred.specs.Question.{QuestionCases, IsQuestion}
use Rattle.ira_pred.specs.QuestionText.{IsShort}
use Rattle.ira_pred.specs.Pairs.{ArePairCases, numbers_from, cases_of_place, pairs_asked}
use Rattle.ira_pred.proofs.PairCases.{next-number, last-number, shifted, pairs-are-question, pairs-short}
use Rattle.ira_pred.proofs.PairOrder.{pair_cases}
use Rattle.ira_pred.proofs.pairs.pairs_question.Goals as goal

pub loop-i-preserved : goal.loop-i-preserved
loop-i-preserved g c =
    let i = c.loop-i.i in
    let n = c.args.nodes in
    let left = flat_map (cases_of_place n) (numbers_from i (n - i)) in
    let rest = flat_map (cases_of_place n) (numbers_from (i + 1) (n - (i + 1))) in
    let below : i < n = omega (arith, c.loop-i-test.true, c.get-i-end.ensures.value) in
    let next = ap (flat_map (cases_of_place n)) (next-number i n below) in
    ap (λ x. x ++ rest) c.in_ok-push_pairs.ensures ∙ shifted c.loop-i.cases.items (cases_of_place n i) left rest next
    ∙ c.loop-i.invariant

pub of_parts-requires-clause-valid : goal.of_parts-requires-clause-valid
of_parts-requires-clause-valid g c =
    let i = c.loop-i.i in
    let n = c.args.nodes in
    let cases = c.loop-i.cases.items in
    let end : n ≤ i = omega (arith, c.loop-i-test.false, c.get-i-end.ensures.value) in
    let all = sym (append-nil cases)
    ∙ ap (λ x. cases ++ x) (sym (ap (flat_map (cases_of_place n)) (last-number i n end))) ∙ c.loop-i.invariant in
    subst (λ x. IsQuestion (record { nodes = n; cases = x })) (sym all) (pairs-are-question n c.get.ensures.valid)

pub of_parts-requires-clause-short : goal.of_parts-requires-clause-short
of_parts-requires-clause-short g c =
    let i = c.loop-i.i in
    let n = c.args.nodes in
    let cases = c.loop-i.cases.items in
    let end : n ≤ i = omega (arith, c.loop-i-test.false, c.get-i-end.ensures.value) in
    let all = sym (append-nil cases)
    ∙ ap (λ x. cases ++ x) (sym (ap (flat_map (cases_of_place n)) (last-number i n end))) ∙ c.loop-i.invariant in
    subst (λ x. IsShort (record { nodes = n; cases = x })) (sym all) (pairs-short n c.get.ensures.valid.1)

pub returns-clause-pairs : goal.returns-clause-pairs
returns-clause-pairs g c =
    let i = c.loop-i.i in
    let n = c.args.nodes in
    let cases = c.loop-i.cases.items in
    let end : n ≤ i = omega (arith, c.loop-i-test.false, c.get-i-end.ensures.value) in
    let all = sym (append-nil cases)
    ∙ ap (λ x. cases ++ x) (sym (ap (flat_map (cases_of_place n)) (last-number i n end))) ∙ c.loop-i.invariant in
    let is : c.of_parts.result ≡ pairs_asked n = c.of_parts.ensures ∙ ap (λ x. record { nodes = n; cases = x }) all in (
      ap (λ (q : QuestionCases). q.nodes) is,
      subst (λ (q : QuestionCases). ArePairCases n q.cases) (sym is) (pair_cases n),
    )
