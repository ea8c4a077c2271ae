use Rattle.std.proofs.Common.{◌≡◌, ◌∷◌, ◌∙◌, [], Some, ap, sym, arith, rules}
use Rattle.ira_event.specs.declared.event.Event.TheVariants.{Sent}
use Rattle.ira_order.proofs.Receipts.{next_ahead}
use Rattle.std.proofs.lemmas.Option.{slice_get_within}
use Rattle.ira_view_evidence.proofs.Counted.{at_number}
use Rattle.ira_view_explain.proofs.StopHints.{none_more, none_past}
use Rattle.ira_view_explain.proofs.stopped.sending_after.Goals as goal
use Rattle.ira_view_explain.proofs.stopped.sending_after.Goals.{else-number-position-via-then-number-position+else-eq, else-number-position-via-else-number-position}

pub returns-then-eq : goal.returns-then-eq
returns-then-eq g c =
    let front : c.loop-event.event-iterator ≡ c.in-Some.event ∷ c.next.new.self = search rules in
    let at = next_ahead c.args.log.now.events c.loop-event.number c.in-Some.event c.next.new.self (sym front
    ∙ c.loop-event.invariant.ahead) in
    let sent : c.in-Some.event ≡ Sent c.args.load = search rules in (
      omega (arith, c.if-number-position.true),
      at_number c.args.log.now.events c.loop-event.number c.in-Some.event at.0 ∙ ap Some sent,
    )

pub loop-event-preserved : goal.loop-event-preserved
loop-event-preserved g c =
    let front : c.loop-event.event-iterator ≡ c.in-Some.event ∷ c.next.new.self = search rules in
    let at = next_ahead c.args.log.now.events c.loop-event.number c.in-Some.event c.next.new.self (sym front
    ∙ c.loop-event.invariant.ahead) in
    let more = none_more c.args.log.now c.args.position c.loop-event.number c.args.load c.in-Some.event at.0
    c.loop-event.invariant.none in
    record {
      ahead = at.1;
      within = omega (arith, slice_get_within c.args.log.now.events c.loop-event.number c.in-Some.event at.0);
      none = elim c.else-number-position.branch [
        | else-number-position-via-then-number-position+else-eq w ↦
            more (λ p. let sent : c.in-Some.event ≡ Sent c.args.load = p.1 in search rules)
        | else-number-position-via-else-number-position w ↦
            more (λ p. omega (arith, p.0, w.if-number-position.false))
      ];
    }

pub returns : goal.returns
returns g c =
    let front : c.loop-event.event-iterator ≡ [] = search rules in
    none_past c.args.log.now c.args.position c.loop-event.number c.args.load
    (sym front ∙ c.loop-event.invariant.ahead) c.loop-event.invariant.none
