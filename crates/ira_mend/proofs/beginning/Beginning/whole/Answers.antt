use Rattle.std.proofs.Common.{◌≡◌, ◌∙◌, ◌∷◌, [], inl, inr, ap, arith, refl, rules, sym}
use Rattle.ira_event.specs.declared.event.Event.{Event}
use Rattle.ira_event.specs.declared.event.Event.TheVariants.{Draw, Sent, Got, Yield}
use Rattle.ira_order.proofs.Receipts.{none_ahead}
use Rattle.ira_mend.proofs.Beginnings.{counting_more, few_counted}
use Rattle.ira_mend.proofs.beginning.Beginning.whole.Goals as goal

pub overflow_add-receipts : goal.overflow_add-receipts
overflow_add-receipts g c =
    omega (
      arith,
      (few_counted c.args.log.now.events c.loop-event.events c.loop-event.receipts c.loop-event.sendings
          c.loop-event.event-iterator c.loop-event.invariant).0,
      c.loop-event.invariant.within,
      c.events-event-items.ensures.valid.count,
    )

pub overflow_add-sendings : goal.overflow_add-sendings
overflow_add-sendings g c =
    omega (
      arith,
      (few_counted c.args.log.now.events c.loop-event.events c.loop-event.receipts c.loop-event.sendings
          c.loop-event.event-iterator c.loop-event.invariant).1,
      c.loop-event.invariant.within,
      c.events-event-items.ensures.valid.count,
    )

pub loop-event-preserved-in-Got : goal.loop-event-preserved-in-Got
loop-event-preserved-in-Got g c =
    let next : c.loop-event.event-iterator ≡ c.in-Some.event ∷ c.next.new.self = search rules in
    counting_more c.args.log.now.events c.loop-event.events c.loop-event.receipts c.loop-event.sendings _ _
    (Got c.in-Got.field-0) c.loop-event.event-iterator c.next.new.self c.loop-event.invariant
    (next ∙ ap (λ (e : Event). e ∷ c.next.new.self) c.in-Got.is) refl (omega arith)

pub loop-event-preserved-in-Sent : goal.loop-event-preserved-in-Sent
loop-event-preserved-in-Sent g c =
    let next : c.loop-event.event-iterator ≡ c.in-Some.event ∷ c.next.new.self = search rules in
    counting_more c.args.log.now.events c.loop-event.events c.loop-event.receipts c.loop-event.sendings _ _
    (Sent c.in-Sent.field-0) c.loop-event.event-iterator c.next.new.self c.loop-event.invariant
    (next ∙ ap (λ (e : Event). e ∷ c.next.new.self) c.in-Sent.is) (omega arith) refl

pub loop-event-preserved : goal.loop-event-preserved
loop-event-preserved g c =
    let next : c.loop-event.event-iterator ≡ c.in-Some.event ∷ c.next.new.self = search rules in
    elim c.in-Draw.is [
      | inl draw ↦ counting_more c.args.log.now.events c.loop-event.events c.loop-event.receipts c.loop-event.sendings _
          _ (Draw draw.0) c.loop-event.event-iterator c.next.new.self c.loop-event.invariant
          (next ∙ ap (λ (e : Event). e ∷ c.next.new.self) draw.1) (omega arith) (omega arith)
      | inr yield ↦ counting_more c.args.log.now.events c.loop-event.events c.loop-event.receipts c.loop-event.sendings
          _ _ Yield c.loop-event.event-iterator c.next.new.self c.loop-event.invariant
          (next ∙ ap (λ (e : Event). e ∷ c.next.new.self) yield) (omega arith) (omega arith)
    ]

pub returns-clause-whole : goal.returns-clause-whole
returns-clause-whole g c =
    let none : c.loop-event.event-iterator ≡ [] = search rules in
    omega (
      arith,
      c.loop-event.invariant.within,
      none_ahead c.args.log.now.events c.loop-event.events (sym none ∙ c.loop-event.invariant.left),
    )
