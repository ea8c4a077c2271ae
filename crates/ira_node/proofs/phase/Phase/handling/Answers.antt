use Rattle.std.proofs.Common.{◌≡◌, true, refl, rules, arith}
use Rattle.std.proofs.lemmas.Bool.Decides.{nat_tests}
use Rattle.ira_node.specs.Msg.{IsEqual, dirtied, raised}
use Rattle.ira_node.specs.StepAnswer.{is_less}
use Rattle.ira_node.specs.NodeStep.{meets, passes, purges, sends}
use Rattle.ira_node.proofs.Answers.{less_means}
use Rattle.ira_node.proofs.phase.Phase.handling.Goals as goal

pub returns-then-lt : goal.returns-then-lt
returns-then-lt c = λ term.
    let is : is_less c.args.message.now c.in-Active.round c.in-Active.id ≡ true = search rules in
    rw c.in-Active.is (purges term c.in-Active.round c.in-Active.id c.args.message.now refl refl (less_means c.args.message.now c.in-Active.round c.in-Active.id is) refl)

pub returns-then-message-from : goal.returns-then-message-from
returns-then-message-from c =
    let m = c.args.message.now in
    let same : IsEqual m c.in-Active.round c.in-Active.id = (grind (arith, nat_tests, c.if-eq.ensures), grind (arith, nat_tests, c.if-eq.ensures)) in
    let dirty : dirtied m ≡ raised m = rw c.if-message.true refl in (
      c.if-message-ge-MAX_NUMBER.false,
      λ term. rw (c.in-Active.is, ← dirty) (meets term c.in-Active.round c.in-Active.id m refl refl same (omega (arith, c.if-message-from.true, c.from.ensures, c.get.ensures.value)) c.if-message-ge-MAX_NUMBER.false refl),
      λ term. rw c.in-Active.is (sends _ (λ no. no) refl refl refl),
    )

pub returns-in-Passive : goal.returns-in-Passive
returns-in-Passive c = (
  c.if-message-ge-MAX_NUMBER.false,
  λ term. rw c.in-Passive.is (passes term c.args.message.now refl refl c.if-message-ge-MAX_NUMBER.false refl),
  λ term. rw c.in-Passive.is (sends _ (λ no. no) refl refl refl),
)
