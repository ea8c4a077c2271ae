use Rattle.std.proofs.Common.{[], ◌∷◌, ◌++◌, ◌+◌, ◌-◌, ◌<◌, ◌≤◌, map, sym, ap, ◌∙◌, arith}
use Rattle.std.proofs.lemmas.List.{append-nil}
use Rattle.ira_pred.specs.Pairs.{numbers_from, pair_case}
use Rattle.ira_pred.proofs.PairCases.{next-number, last-number, shifted}
use Rattle.ira_pred.proofs.pairs.push_pairs.Goals as goal

pub loop-j-preserved : goal.loop-j-preserved
loop-j-preserved g c =
    let i = c.args.i in
    let j = c.loop-j.j in
    let n = c.args.nodes in
    let case = c.in_ok-pair_case.field-0 in
    let left = map (pair_case i) (numbers_from j (n - j)) in
    let rest = map (pair_case i) (numbers_from (j + 1) (n - (j + 1))) in
    let below : j < n = omega (arith, c.loop-j-test.true, c.get-j-end.ensures.value) in
    let next = ap (map (pair_case i)) (next-number j n below) ∙ ap (λ x. x ∷ rest) (sym c.in_ok-pair_case.ensures) in
    ap (λ x. x ++ rest) c.in_ok-push.ensures.items ∙ shifted c.loop-j.cases.items (case ∷ []) left rest next
    ∙ c.loop-j.invariant

pub returns : goal.returns
returns g c =
    let j = c.loop-j.j in
    let n = c.args.nodes in
    let cases = c.loop-j.cases.items in
    let end : n ≤ j = omega (arith, c.loop-j-test.false, c.get-j-end.ensures.value) in
    sym (append-nil cases) ∙ ap (λ x. cases ++ x) (sym (ap (map (pair_case c.args.i)) (last-number j n end)))
    ∙ c.loop-j.invariant
