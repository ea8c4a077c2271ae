use Rattle.std.proofs.Common.{◌≡◌, ◌∙◌, ap, length}
use Rattle.ira_order.specs.Ring.{events_of, next}
use Rattle.ira_view_trail.proofs.RightRows.{link_right_at}
use Rattle.ira_view_trail.proofs.right.is_link_right.Goals as goal

pub columns_at-requires : goal.columns_at-requires
columns_at-requires g c =
    c.requires.rows.each c.args.link c.row.result.now c.row.ensures
    ∙ ap (λ o. length (events_of o)) c.log.ensures.value

pub columns_at-requires-2 : goal.columns_at-requires-2
columns_at-requires-2 g c =
    c.requires.rows.each c.successor-reader.result c.row-2.result.now c.row-2.ensures
    ∙ ap (λ o. length (events_of o)) c.log-2.ensures.value

pub returns : goal.returns
returns g c = λ yes.
    let is : c.successor-reader.result ≡ next (length c.args.logs.now) c.args.link =
    c.successor-reader.ensures.value ∙ ap (λ n. next n c.args.link) (c.get.ensures.value ∙ c.size.ensures.value) in
    link_right_at c.args.logs.now c.args.columns.now c.args.link c.successor-reader.result c.log.result.now
    c.log-2.result.now c.row.result.now c.row-2.result.now c.in_ok-sendings.sendings.items
    c.in_ok-receipts.receipts.items is c.log.ensures.value c.log-2.ensures.value c.row.ensures
    c.row-2.ensures c.in_ok-sendings.ensures c.in_ok-receipts.ensures
    (rw (c.as_slice.ensures.value, c.as_slice-2.ensures.value) at (c.are_less.ensures yes))
