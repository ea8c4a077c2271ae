use Rattle.std.proofs.Common.{◌≡◌, ◌<◌, All, filter, length}
use Rattle.std.specs.List.{range_with_len}
use Rattle.ira_view_explain_question.specs.ChosenCases.{is_present_at}
use Rattle.ira_view_explain_question.proofs.chosen_cases.present_cases.Given as goal

abbrev pub invariant-loop-number : goal.invariant-loop-number
invariant-loop-number g l =
    (l.numbers.items ≡ filter (is_present_at l.found) (range_with_len 0 l.number))
    × All (λ n. n < length l.found) l.numbers.items
