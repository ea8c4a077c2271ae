use Rattle.std.proofs.Common.{◌≡◌, ◌<◌, All}
use Rattle.std.specs.List.{range_with_len}
use Rattle.ira_view_explain_question.proofs.chosen_cases.numbers_below.Given as goal

abbrev pub invariant-loop-number : goal.invariant-loop-number
invariant-loop-number g l =
    (l.numbers.items ≡ range_with_len 0 l.number) × All (λ n. n < l.end) l.numbers.items
