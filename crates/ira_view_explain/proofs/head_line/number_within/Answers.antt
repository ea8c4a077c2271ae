use Rattle.std.proofs.Common.{◌≡◌, ◌≤◌, arith}
use Rattle.std.proofs.lemmas.Bool.Decides.{nat_tests}
use Rattle.ira_view_explain.proofs.HeadNumbers.{one_number}
use Rattle.ira_view_explain.proofs.head_line.number_within.Goals as goal

pub returns-in_err-number : goal.returns-in_err-number
returns-in_err-number c = rw c.from_residual.ensures (λ n numbered within. c.in_err-number.ensures n numbered)

pub returns-else-contains : goal.returns-else-contains
returns-else-contains c = λ n numbered within.
    let found = c.in_ok-number.ensures in
    let same : n ≡ found.0 = one_number c.args.word.now c.args.line.now n found.0 numbered found.1 in
    let number : c.in_ok-number.number ≡ n = omega (arith, same, found.2, within.high, c.requires) in
    let low : c.args.least ≤ c.in_ok-number.number = omega (arith, number, within.low) in
    let high : c.in_ok-number.number ≤ c.args.most = omega (arith, number, within.high) in
    let value = rw (c.new.ensures.start, c.new.ensures.end, c.new.ensures.exhausted) at c.contains.ensures.value in
    absurd (grind (arith, nat_tests, value, c.if-contains.false, low, high))
