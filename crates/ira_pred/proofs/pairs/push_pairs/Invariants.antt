use Rattle.std.proofs.Common.{◌≡◌, ◌-◌, ◌++◌, map}
use Rattle.ira_pred.specs.Pairs.{numbers_from, pair_case, cases_of_place}
use Rattle.ira_pred.proofs.pairs.push_pairs.Given as goal

abbrev pub invariant-loop-j : goal.invariant-loop-j
invariant-loop-j g l =
    l.cases.items ++ map (pair_case l.fn.i) (numbers_from l.j (l.fn.nodes - l.j)) ≡ l.initial.cases.items
    ++ cases_of_place l.fn.nodes l.fn.i
