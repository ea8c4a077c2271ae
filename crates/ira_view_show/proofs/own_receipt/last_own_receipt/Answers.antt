use Rattle.std.proofs.Common.{◌≡◌, ◌∙◌, ◌∷◌, [], Option, ap, rules, sym}
use Rattle.std.specs.Option.{option_or}
use Rattle.ira_view_show.proofs.OwnReceipts.{last_is, latest, own_after}
use Rattle.ira_view_show.specs.declared.own_receipt.OwnReceipt.{OwnReceipt}
use Rattle.ira_view_show.proofs.own_receipt.last_own_receipt.Goals as goal

pub loop-events-preserved : goal.loop-events-preserved
loop-events-preserved g c =
    let front : c.loop-events.events-iterator ≡ (c.in-Some.events, c.in-Some.state) ∷ c.next.new.self =
    search rules in
    let f = own_after c.args.log.now in
    let last = c.loop-events.last in
    let found : c.or-last.result ≡ option_or (f (c.in-Some.events, c.in-Some.state)) last =
    c.or-last.ensures ∙ ap (λ (o : Option OwnReceipt). option_or o last) c.own_receipt.ensures in
    ap (λ (o : Option OwnReceipt). latest f o c.next.new.self) found ∙ sym (ap (latest f last) front)
    ∙ c.loop-events.invariant

pub returns : goal.returns
returns g c =
    let none : c.loop-events.events-iterator ≡ [] = search rules in
    let f = own_after c.args.log.now in
    last_is c.args.log.now c.loop-events.last (sym (ap (latest f c.loop-events.last) none) ∙ c.loop-events.invariant)
