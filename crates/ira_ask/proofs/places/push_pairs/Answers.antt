use Rattle.std.proofs.Common.{[], ◌∷◌, ◌++◌, ◌+◌, ◌-◌, ◌<◌, ◌≤◌, map, sym, ap, ◌∙◌, arith}
use Rattle.std.proofs.lemmas.List.{append-nil}
use Rattle.ira_pred.specs.Pairs.{numbers_from}
use Rattle.ira_pred.proofs.PairCases.{next-number, last-number, shifted}
use Rattle.ira_ask.specs.Choices.{two}
use Rattle.ira_ask.proofs.places.push_pairs.Goals as goal

pub loop-j-preserved : goal.loop-j-preserved
loop-j-preserved g c =
    let i = c.args.i in
    let j = c.loop-j.j in
    let n = c.args.end in
    let left = map (two i) (numbers_from j (n - j)) in
    let rest = map (two i) (numbers_from (j + 1) (n - (j + 1))) in
    let below : j < n = omega (arith, c.loop-j-test.true) in
    let next = ap (map (two i)) (next-number j n below) in
    ap (λ x. x ++ rest) c.in_ok-push.ensures.items ∙ shifted c.loop-j.choices.items (two i j ∷ []) left rest next
    ∙ c.loop-j.invariant

pub returns : goal.returns
returns g c =
    let i = c.args.i in
    let j = c.loop-j.j in
    let n = c.args.end in
    let choices = c.loop-j.choices.items in
    let end : n ≤ j = omega (arith, c.loop-j-test.false) in
    sym (append-nil choices) ∙ ap (λ x. choices ++ x) (sym (ap (map (two i)) (last-number j n end)))
    ∙ c.loop-j.invariant
