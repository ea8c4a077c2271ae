use Rattle.std.proofs.Common.{◌≡◌, ◌-◌, ◌++◌, map}
use Rattle.ira_pred.specs.Pairs.{numbers_from}
use Rattle.ira_ask.specs.Choices.{two}
use Rattle.ira_ask.proofs.places.push_pairs.Given as goal

abbrev pub invariant-loop-j : goal.invariant-loop-j
invariant-loop-j g l =
    l.choices.items ++ map (two l.fn.i) (numbers_from l.j (l.fn.end - l.j)) ≡ l.initial.choices.items
    ++ map (two l.fn.i) (numbers_from l.fn.first (l.fn.end - l.fn.first))
