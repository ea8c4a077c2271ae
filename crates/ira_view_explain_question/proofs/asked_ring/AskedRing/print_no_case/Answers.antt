use Rattle.std.proofs.Common.{◌≡◌, ap, arith, length, nat_eq, true}
use Rattle.std.specs.Prelude.{codes}
use Rattle.std.proofs.lemmas.Bool.Decides.{nat_tests}
use Rattle.ira_view_page.proofs.Adding.{◌&◌, added_as}
use Rattle.ira_view_page.specs.Numbers.{number_of_text}
use Rattle.ira_view_explain_question.proofs.asked_ring.AskedRing.print_no_case.Goals as goal

pub returns : goal.returns
returns g c =
    let none : nat_eq c.args.chosen 0 ≡ true = grind (arith, nat_tests) in
    let cases = ap (λ cs. number_of_text (length cs) (codes "case")) c.cases.ensures.value in
    rw none (
    c.blank.ensures & c.begin.ensures & c.words.ensures & c.number.ensures & c.words-2.ensures
    & added_as cases c.number_of.ensures
    & c.words-3.ensures
    & c.end.ensures
    )
