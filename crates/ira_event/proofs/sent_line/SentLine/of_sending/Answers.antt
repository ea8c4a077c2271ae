use Rattle.std.proofs.Common.{◌≡◌, ◌∙◌, ap, sym, take, subst}
use Rattle.std.proofs.lemmas.List.{take-take}
use Rattle.ira_event.specs.SentLine.{IsReceiptLine, IsSendingLine}
use Rattle.ira_event.proofs.PassedOn.{as_receipt}
use Rattle.ira_event.proofs.sent_line.SentLine.of_sending.Goals as goal

pub invariant_of-result : goal.invariant_of-result
invariant_of-result c =
    let room = c.copy_from_slice.new.self in
    let same : take c.args.len room ≡ take c.args.len c.args.text.now =
    ap (λ t. take c.args.len t) c.copy_from_slice.ensures.after
    ∙ take-take c.args.len 32 c.args.text.now c.if-len-gt-LINE_ROOM.false in
    let line = as_receipt room c.args.len c.args.message c.if-len-lt-LANES.false
    (subst (λ t. IsSendingLine t c.args.message) (sym same) c.requires.line) in (
      c.if-len-lt-LANES.false,
      c.if-len-gt-LINE_ROOM.false,
      subst (λ r. IsReceiptLine (take c.args.len r) c.args.message) (sym c.write_word.ensures) line,
      c.requires.in_range,
    )
