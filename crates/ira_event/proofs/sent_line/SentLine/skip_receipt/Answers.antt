use Rattle.std.proofs.Common.{◌++◌, ◌∙◌, ap, sym, take, subst}
use Rattle.std.proofs.lemmas.List.{take-append-drop}
use Rattle.ira_event.specs.SentLine.{IsReceiptLine}
use Rattle.ira_event.proofs.Rest.{slice-from}
use Rattle.ira_event.proofs.sent_line.SentLine.skip_receipt.Goals as goal

pub returns-clause-line : goal.returns-clause-line
returns-clause-line c =
    let len = c.from-len.result in
    let text = c.args.text.now in
    let same = c.begins_with.ensures c.if-not-begins_with.false
    ∙ ap (λ k. take k c.self.inside.room) c.from-len.ensures in
    let line = subst (λ t. IsReceiptLine t c.self.inside.message) (sym same) c.self.invariant.2 in (
      take len text,
      sym (ap (λ z. take len text ++ z) (slice-from text len) ∙ take-append-drop len text),
      subst (IsReceiptLine (take len text)) c.self.view_is line,
    )
