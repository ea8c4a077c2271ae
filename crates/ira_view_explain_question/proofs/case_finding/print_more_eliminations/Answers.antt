use Rattle.std.proofs.Common.{◌≡◌, arith, false, nat_eq}
use Rattle.std.proofs.lemmas.Bool.Decides.{nat_tests}
use Rattle.ira_view_page.proofs.Adding.{◌&◌}
use Rattle.ira_view_explain_question.proofs.case_finding.print_more_eliminations.Goals as goal

pub returns-then-count-gt0 : goal.returns-then-count-gt0
returns-then-count-gt0 g c =
    let some : nat_eq c.args.count 0 ≡ false = grind (arith, nat_tests) in
    rw some (c.begin.ensures & c.words.ensures & c.number.ensures & c.words-then-count-gt0.ensures & c.end.ensures)
