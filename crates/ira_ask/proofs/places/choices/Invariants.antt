use Rattle.std.proofs.Common.{◌≡◌, ◌-◌, ◌++◌, map}
use Rattle.std.specs.List.{flat_map}
use Rattle.ira_pred.specs.Pairs.{numbers_from}
use Rattle.ira_ask.specs.declared.picks.Picks.TheVariants.{Alike, One, Two}
use Rattle.ira_ask.specs.Choices.{choices, one, places_after, two}
use Rattle.ira_ask.proofs.places.choices.Given as goal

abbrev pub invariant-loop-i : goal.invariant-loop-i
invariant-loop-i g l = l.choices.items ++ map one (numbers_from l.i (l.fn.nodes - l.i)) ≡ choices l.fn.nodes One

abbrev pub invariant-loop-i-2 : goal.invariant-loop-i-2
invariant-loop-i-2 g l =
    l.choices.items ++ flat_map (λ i. map (two i) (numbers_from 0 i) ++ map (two i) (places_after l.fn.nodes i))
    (numbers_from l.i (l.fn.nodes - l.i)) ≡ choices l.fn.nodes Two

abbrev pub invariant-loop-i-3 : goal.invariant-loop-i-3
invariant-loop-i-3 g l =
    l.choices.items ++ flat_map (λ i. map (two i) (places_after l.fn.nodes i)) (numbers_from l.i (l.fn.nodes - l.i))
    ≡ choices l.fn.nodes Alike
