use Rattle.std.proofs.Common.{◌≡◌, ◌∙◌, ◌==◌, ◌≢◌, Bool, [], ap, false, length, refl, sym, true}
use mathlib.Core.Bool.{beq, not}
use Rattle.std.specs.List.{list_any}
use Rattle.ira_view_page.proofs.Adding.{◌&◌, added_as, nothing_added}
use Rattle.ira_view_show.specs.Leaders.{is_leader}
use Rattle.ira_view_show.specs.Reasons.{reason_text}
use Rattle.ira_view_show.specs.Reasons.IsReasonAt.{agrees, differs}
use Rattle.ira_view_show.proofs.reasons.print_reason_at.Goals as goal

differ : (a b : Bool) → not (beq a b) ≡ true → a ≢ b
differ true true is same = cc
differ true false is same = cc
differ false true is same = cc
differ false false is same = cc

alike : (a b : Bool) → not (beq a b) ≡ false → a ≡ b
alike true true is = refl
alike true false is = cc
alike false true is = cc
alike false false is = refl

pub returns-then-leads-is_named : goal.returns-then-leads-is_named
returns-then-leads-is_named g c =
    let place = c.args.place in
    let node = c.node.result in
    let leads = is_leader node.state.phase in
    let other : leads ≢ list_any (λ n. n == place) c.args.named.now =
    λ same. differ c.is_leader-leads.result c.is_named.result c.if-leads-is_named.true
    (c.is_leader-leads.ensures ∙ same ∙ sym c.is_named.ensures) in
    let size : c.get.result ≡ length c.args.logs.now = c.get.ensures.value ∙ c.size.ensures.value in
    let file = c.file_of-file.result.now in
    let receipt = c.last_own_receipt-receipt.result in
    let text = ap (λ n. reason_text file n place c.is_leader-leads.result receipt) size
    ∙ ap (λ (b : Bool). reason_text file (length c.args.logs.now) place b receipt) c.is_leader-leads.ensures in (
      node,
      c.node.ensures,
      _,
      differs _ _ _ other c.log.ensures.value (record {
        receipt = receipt;
        receipt_is = c.last_own_receipt-receipt.ensures;
        file = file;
        file_is = c.file_of-file.ensures;
        text = refl;
      }) c.print_draw.ensures.1 refl,
      added_as text c.print_reason.ensures & c.print_draw.ensures.2,
    )

pub returns-else-leads-is_named : goal.returns-else-leads-is_named
returns-else-leads-is_named g c = (
  c.node.result,
  c.node.ensures,
  [],
  agrees (sym c.is_leader-leads.ensures ∙ alike _ _ c.if-leads-is_named.false ∙ c.is_named.ensures) refl,
  nothing_added _,
)
