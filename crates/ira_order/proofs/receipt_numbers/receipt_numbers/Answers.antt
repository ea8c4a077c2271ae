use Rattle.std.proofs.Common.{◌≡◌, ◌∷◌, ◌∙◌, [], sym, arith, rules}
use Rattle.ira_event.specs.declared.event.Event.TheVariants.{Got}
use Rattle.std.proofs.lemmas.Option.{slice_get_within}
use Rattle.ira_order.proofs.Receipts.{got_le, receipts_le, next_ahead, none_ahead, number_more, number_over}
use Rattle.ira_order.proofs.Receipts.{numbers_end}
use Rattle.ira_order.proofs.receipt_numbers.receipt_numbers.Goals as goal

pub loop-event-preserved-in-Continue-branch-2 : goal.loop-event-preserved-in-Continue-branch-2
loop-event-preserved-in-Continue-branch-2 g c =
    let front : c.loop-event.event-iterator ≡ Got c.in-Got.field-0 ∷ c.next.new.self = search rules in
    let at = next_ahead c.args.log.now.events c.loop-event.number (Got c.in-Got.field-0) c.next.new.self (sym front
    ∙ c.loop-event.invariant.ahead) in
    record {
      ahead = at.1;
      within = omega (arith, slice_get_within c.args.log.now.events c.loop-event.number (Got c.in-Got.field-0) at.0);
      numbers = rw c.in_ok-push.ensures.items
          (number_more c.args.log.now.events c.loop-event.number c.in-Got.field-0 _ at.0
          c.loop-event.invariant.numbers);
    }

pub loop-event-preserved : goal.loop-event-preserved
loop-event-preserved g c =
    let front : c.loop-event.event-iterator ≡ c.in-Some.event ∷ c.next.new.self = search rules in
    let at = next_ahead c.args.log.now.events c.loop-event.number c.in-Some.event c.next.new.self (sym front
    ∙ c.loop-event.invariant.ahead) in
    record {
      ahead = at.1;
      within = omega (arith, slice_get_within c.args.log.now.events c.loop-event.number c.in-Some.event at.0);
      numbers = number_over c.args.log.now.events c.loop-event.number c.in-Some.event _ at.0 (search rules)
          c.loop-event.invariant.numbers;
    }

pub returns-clause-receipts : goal.returns-clause-receipts
returns-clause-receipts g c =
    let front : c.loop-event.event-iterator ≡ [] = search rules in
    numbers_end c.args.log.now.events c.loop-event.number _
    (none_ahead c.args.log.now.events c.loop-event.number (sym front ∙ c.loop-event.invariant.ahead))
    c.loop-event.invariant.numbers

pub returns-clause-few : goal.returns-clause-few
returns-clause-few g c = omega (
  arith,
  c.loop-event.invariant.numbers.count,
  got_le c.args.log.now.events c.loop-event.number,
  receipts_le c.args.log.now.events,
  c.len.ensures.valid.count,
)
