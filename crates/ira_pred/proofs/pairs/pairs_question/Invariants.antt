use Rattle.std.proofs.Common.{◌≡◌, ◌-◌, ◌++◌}
use Rattle.std.specs.List.{flat_map}
use Rattle.ira_pred.specs.Pairs.{numbers_from, cases_of_place}
use Rattle.ira_pred.proofs.pairs.pairs_question.Given as goal

abbrev pub invariant-loop-i : goal.invariant-loop-i
invariant-loop-i g l =
    l.cases.items ++ flat_map (cases_of_place l.nodes) (numbers_from l.i (l.nodes - l.i))
    ≡ flat_map (cases_of_place l.nodes) (numbers_from 0 l.nodes)
