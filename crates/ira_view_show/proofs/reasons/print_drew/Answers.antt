use Rattle.std.proofs.Common.{◌≡◌, arith, false, nat_eq, sym, true}
use Rattle.std.proofs.lemmas.Bool.Decides.{nat_tests}
use Rattle.ira_view_page.proofs.Adding.{◌&◌}
use Rattle.ira_view_show.proofs.reasons.print_drew.Goals as goal

pub returns-in-Some : goal.returns-in-Some
returns-in-Some g c =
    let other = sym (rw c.in-Some.is at c.other_in.ensures) in
    let test : nat_eq c.args.id c.args.round.now.greatest ≡ true = grind (arith, nat_tests, c.if-id-round.true) in
    rw (other, test)
    (c.numbered.ensures & c.numbered-in-Some.ensures & c.numbered-in-Some-2.ensures & c.words.ensures & c.round.ensures)

pub returns-in-Some-2 : goal.returns-in-Some-2
returns-in-Some-2 g c =
    let other = sym (rw c.in-Some.is at c.other_in.ensures) in
    let test : nat_eq c.args.id c.args.round.now.greatest ≡ false = grind (arith, nat_tests, c.if-id-round.false) in
    rw (other, test)
    (c.numbered-in-Some-2-2.ensures & c.numbered-in-Some-2-3.ensures & c.words-in-Some-2.ensures
    & c.round-in-Some-2.ensures & c.numbered-in-Some-2-4.ensures & c.numbered-in-Some-2-5.ensures)

pub returns-in-None : goal.returns-in-None
returns-in-None g c =
    let other = sym (rw c.in-None.is at c.other_in.ensures) in
    rw other
    (c.numbered-in-None.ensures & c.numbered-in-None-2.ensures & c.words-in-None.ensures & c.round-in-None.ensures
    & c.words-in-None-2.ensures)
