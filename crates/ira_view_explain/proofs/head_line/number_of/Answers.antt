use Rattle.std.proofs.Common.{◌≡◌, List, [], ℕ, Some, subst, sym}
use Rattle.ira_event.proofs.LogReading.{empty_is, not_empty}
use Rattle.ira_event.specs.Scan.{kept_at}
use Rattle.ira_view_explain.proofs.HeadNumbers.{nothing_left, number_left, numbered_there, word_there}
use Rattle.ira_view_explain.proofs.head_line.number_of.Goals as goal

pub returns-in_err-skip_word : goal.returns-in_err-skip_word
returns-in_err-skip_word c =
    rw c.from_residual.ensures (λ n numbered.
    absurd (let there = word_there c.args.word.now c.args.line.now n numbered in
    let none = c.in_err-skip_word.ensures in cc))

pub returns-then-is_empty : goal.returns-then-is_empty
returns-then-is_empty c =
    let rest = c.in_ok-skip_word.field-0.now in
    let empty : c.in_ok-number.rest.now ≡ [] = empty_is _ (sym c.if-is_empty.ensures) in
    numbered_there c.args.word.now c.args.line.now rest c.in_ok-number.number c.in_ok-skip_word.ensures
    (subst (λ (r : List ℕ). kept_at rest ≡ Some (c.in_ok-number.number, r)) empty c.in_ok-number.ensures)

pub returns-else-is_empty : goal.returns-else-is_empty
returns-else-is_empty c = λ n numbered.
    let left = number_left c.args.word.now c.args.line.now c.in_ok-skip_word.field-0.now n numbered
    c.in_ok-skip_word.ensures in
    not_empty c.in_ok-number.rest.now (sym c.if-is_empty.ensures) (nothing_left _ _ _ _ c.in_ok-number.ensures left)
