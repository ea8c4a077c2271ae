use Rattle.std.proofs.Common.{◌≡◌, ◌∙◌, Some, inl, inr, ap, rules, subst}
use Rattle.ira_order.specs.Matching.{receipt, sending}
use Rattle.ira_view_picture.specs.Traffic.{IsTraffic, Traffic}
use Rattle.ira_view_picture.proofs.Effects.{effect_is}
use Rattle.ira_view_picture.proofs.NodeTraffic.{got_more, neither_more, sent_more}
use Rattle.ira_view_picture.proofs.traffic.Traffic.add.Goals as goal

pub returns-in_ok-push-in-Sent : goal.returns-in_ok-push-in-Sent
returns-in_ok-push-in-Sent g c = λ log n at here nothing is.
    let old : Traffic = record { sendings = c.self.inside.sendings.items; receipts = c.self.inside.receipts.items } in
    let same : c.args.self.now ≡ record {
      sendings = c.self.inside.sendings.items;
      receipts = c.self.inside.receipts.items;
    } = search rules in
    let was : IsTraffic log n old = subst (IsTraffic log n) same is in
    rw c.in_ok-push-in-Sent.ensures.items
    (sent_more log n old was c.args.position c.in-Sent.field-0 (at ∙ ap Some c.in-Sent.is) here)

pub returns-in_ok-push-in-Got : goal.returns-in_ok-push-in-Got
returns-in_ok-push-in-Got g c = λ log n at here nothing is.
    let old : Traffic = record { sendings = c.self.inside.sendings.items; receipts = c.self.inside.receipts.items } in
    let same : c.args.self.now ≡ record {
      sendings = c.self.inside.sendings.items;
      receipts = c.self.inside.receipts.items;
    } = search rules in
    let was : IsTraffic log n old = subst (IsTraffic log n) same is in
    rw c.in_ok-push-in-Got.ensures.items
    (got_more log n old was _ c.in-Got.field-0 (at ∙ ap Some c.in-Got.is) here
    (effect_is log c.args.position c.effect_of-effect.result _ c.effect_of-effect.ensures nothing))

pub returns-in-Draw : goal.returns-in-Draw
returns-in-Draw g c = λ log n at here nothing is. elim c.in-Draw.is [
  | inl draw ↦ neither_more log n c.args.self.now is c.args.event at (ap sending draw.1) (ap receipt draw.1)
  | inr yield ↦ neither_more log n c.args.self.now is c.args.event at (ap sending yield) (ap receipt yield)
]
