use Rattle.std.proofs.Common.{◌≡◌, ◌∷◌, ◌∙◌, [], sym, arith, rules}
use Rattle.ira_event.specs.declared.event.Event.TheVariants.{Got, Sent}
use Rattle.std.proofs.lemmas.Option.{slice_get_within}
use Rattle.ira_order.proofs.Receipts.{got_le, receipts_le, next_ahead, none_ahead, number_more, number_over}
use Rattle.ira_order.proofs.Receipts.{numbers_end}
use Rattle.ira_order.proofs.Sendings.{sending_more, sending_over, sendings_end}
use Rattle.ira_order.proofs.node_dependencies.NodeDependencies.of_log.Goals as goal

pub loop-event-preserved-in_ok-push-in-Got : goal.loop-event-preserved-in_ok-push-in-Got
loop-event-preserved-in_ok-push-in-Got g c =
    let front : c.loop-event.event-iterator ≡ Got c.in-Got.field-0 ∷ c.next.new.self = search rules in
    let at = next_ahead c.args.log.now.events c.loop-event.number (Got c.in-Got.field-0) c.next.new.self (sym front
    ∙ c.loop-event.invariant.ahead) in
    record {
      ahead = at.1;
      within = omega (arith, slice_get_within c.args.log.now.events c.loop-event.number (Got c.in-Got.field-0) at.0);
      receipts = rw c.in_ok-push-in-Got.ensures.items
          (number_more c.args.log.now.events c.loop-event.number c.in-Got.field-0 _ at.0
          c.loop-event.invariant.receipts);
      sendings = sending_over c.args.log.now.events c.loop-event.number (Got c.in-Got.field-0) _ at.0 (λ m q.
          cc) c.loop-event.invariant.sendings;
    }

pub overflow_cast-received : goal.overflow_cast-received
overflow_cast-received g c =
    omega (
      arith,
      c.len-received.ensures,
      c.loop-event.invariant.receipts.count,
      got_le c.args.log.now.events c.loop-event.number,
      receipts_le c.args.log.now.events,
      c.len.ensures.valid.count,
    )

pub loop-event-preserved-in_ok-push-in-Sent : goal.loop-event-preserved-in_ok-push-in-Sent
loop-event-preserved-in_ok-push-in-Sent g c =
    let front : c.loop-event.event-iterator ≡ Sent c.in-Sent.field-0 ∷ c.next.new.self = search rules in
    let at = next_ahead c.args.log.now.events c.loop-event.number (Sent c.in-Sent.field-0) c.next.new.self (sym front
    ∙ c.loop-event.invariant.ahead) in
    record {
      ahead = at.1;
      within = omega (arith, slice_get_within c.args.log.now.events c.loop-event.number (Sent c.in-Sent.field-0) at.0);
      receipts = number_over c.args.log.now.events c.loop-event.number (Sent c.in-Sent.field-0) _ at.0 (λ m q.
          cc) c.loop-event.invariant.receipts;
      sendings = rw c.in_ok-push-in-Sent.ensures.items
          (sending_more c.args.log.now.events c.loop-event.number c.in-Sent.field-0 _ _ at.0 (omega arith)
          (omega (arith, c.len-received.ensures, c.loop-event.invariant.receipts.count)) c.loop-event.invariant.sendings);
    }

pub loop-event-preserved : goal.loop-event-preserved
loop-event-preserved g c =
    let front : c.loop-event.event-iterator ≡ c.in-Some.event ∷ c.next.new.self = search rules in
    let at = next_ahead c.args.log.now.events c.loop-event.number c.in-Some.event c.next.new.self (sym front
    ∙ c.loop-event.invariant.ahead) in
    record {
      ahead = at.1;
      within = omega (arith, slice_get_within c.args.log.now.events c.loop-event.number c.in-Some.event at.0);
      receipts = number_over c.args.log.now.events c.loop-event.number c.in-Some.event _ at.0 (search rules)
          c.loop-event.invariant.receipts;
      sendings = sending_over c.args.log.now.events c.loop-event.number c.in-Some.event _ at.0 (search rules)
          c.loop-event.invariant.sendings;
    }

pub returns : goal.returns
returns g c =
    let front : c.loop-event.event-iterator ≡ [] = search rules in
    let past = none_ahead c.args.log.now.events c.loop-event.number (sym front ∙ c.loop-event.invariant.ahead) in
    record {
      receipts = numbers_end c.args.log.now.events c.loop-event.number _ past c.loop-event.invariant.receipts;
      sendings = sendings_end c.args.log.now.events c.loop-event.number _ past c.loop-event.invariant.sendings;
    }
