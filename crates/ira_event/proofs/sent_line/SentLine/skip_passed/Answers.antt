use Rattle.std.proofs.Common.{◌≡◌, ◌≤◌, ◌<◌, ◌++◌, ◌∙◌, true, ℕ, ap, arith, codes, sym, take, subst}
use Rattle.std.proofs.lemmas.List.{take-append-drop}
use Rattle.ira_event.specs.Limits.{MAX_NUMBER}
use Rattle.ira_event.specs.Event.{is_msg}
use Rattle.ira_event.specs.declared.msg.Msg.{Msg}
use Rattle.ira_event.specs.SentLine.{IsReceiptLine, IsSendingLine, passed_on}
use Rattle.ira_event.proofs.PassedOn.{as_receipt, as_sending, passed_in_range}
use Rattle.ira_event.proofs.Rest.{slice-from}
use Rattle.ira_event.proofs.sent_line.SentLine.skip_passed.Goals as goal
use Rattle.ira_event.proofs.sent_line.SentLine.skip_passed.Goals.{After-write_word-2}

module _ (c : After-write_word-2) where
  abbrev len : ℕ
  len = c.from-len.result

  abbrev m : Msg
  m = passed_on c.self.inside.message

  long : 16 ≤ len
  long = omega (arith, c.from-len.ensures, c.self.invariant.0)

  -- the line with the greater hop, after the word of a sending
  made : IsSendingLine (take len c.write_word.new.room) m
  made =
      let line = subst (λ k. IsReceiptLine (take k c.self.inside.room) c.self.inside.message) (sym c.from-len.ensures)
      c.self.invariant.2 in
      let raised = c.if-not-raise_hop.ensures (codes "recv ") c.self.inside.message line in
      subst (λ r. IsSendingLine (take len r) m) (sym c.write_word.ensures)
      (as_sending c.raise_hop.new.room len m long raised)

  -- and after that of a receipt again
  made_again : IsReceiptLine (take c.self.inside.len c.write_word-2.new.room) m
  made_again =
      let line = subst (λ r. IsReceiptLine (take len r) m) (sym c.write_word-2.ensures)
      (as_receipt c.write_word.new.room len m long made) in
      subst (λ k. IsReceiptLine (take k c.write_word-2.new.room) m) c.from-len.ensures line

  in_range : is_msg m ≡ true
  in_range = passed_in_range c.self.inside.message
      (subst (λ (m : Msg). m.hop < MAX_NUMBER) (sym c.self.view_is) c.requires) c.self.invariant.3

pub invariant_of-self-then-not-is_sent : goal.invariant_of-self-then-not-is_sent
invariant_of-self-then-not-is_sent c =
    let at = (goal.at.invariant_of-self-then-not-is_sent c).After-write_word-2 in
    (c.self.invariant.0, c.self.invariant.1, made_again at, in_range at)

pub invariant_of-self-2 : goal.invariant_of-self-2
invariant_of-self-2 c =
    let at = (goal.at.invariant_of-self-2 c).After-write_word-2 in
    (c.self.invariant.0, c.self.invariant.1, made_again at, in_range at)

pub returns-clause-line : goal.returns-clause-line
returns-clause-line c =
    let len = c.from-len.result in
    let text = c.args.text.now in
    let same = c.begins_with-is_sent.ensures c.if-not-is_sent.false in
    let line = subst (λ t. IsSendingLine t (passed_on c.self.inside.message)) (sym same)
    (made (goal.at.returns-clause-line c).After-write_word-2) in (
      take len text,
      sym (ap (λ z. take len text ++ z) (slice-from text len) ∙ take-append-drop len text),
      subst (λ m. IsSendingLine (take len text) (passed_on m)) c.self.view_is line,
    )
