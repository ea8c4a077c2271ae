use Rattle.std.proofs.Common.{◌≡◌, ◌∷◌, ◌∙◌, [], None, Some, ap, sym, arith, rules, length}
use Rattle.std.specs.List.{cons_option}
use Rattle.std.proofs.lemmas.Option.{slice_get_within}
use Rattle.ira_view_evidence.specs.LinkSide.{load_on}
use Rattle.ira_order.proofs.OrderPrefixes.{counted_more, rank_le}
use Rattle.ira_order.proofs.Receipts.{next_ahead}
use Rattle.ira_view_evidence.proofs.Counted.{none_left, nth}
use Rattle.ira_view_evidence.proofs.exchange.nth.Goals as goal

pub overflow_add-position : goal.overflow_add-position
overflow_add-position g c = omega (arith, c.loop-event.invariant.within, c.events-event-items.ensures.valid.count)

pub overflow_add-rank : goal.overflow_add-rank
overflow_add-rank g c =
    omega (
      arith,
      c.loop-event.invariant.rank,
      rank_le (load_on c.args.side) c.args.log.now.events c.loop-event.position,
      c.loop-event.invariant.within,
      c.events-event-items.ensures.valid.count,
    )

pub returns-then-rank-k : goal.returns-then-rank-k
returns-then-rank-k g c =
    let front : c.loop-event.event-iterator ≡ c.in-Some.event ∷ c.next.new.self = search rules in
    let at = next_ahead c.args.log.now.events c.loop-event.position c.in-Some.event c.next.new.self (sym front
    ∙ c.loop-event.invariant.ahead) in
    let has : load_on c.args.side c.in-Some.event ≡ Some c.in-Some-load.load = search rules in
    nth (load_on c.args.side) c.args.place c.args.log.now.events c.loop-event.position c.args.k c.in-Some.event
    c.in-Some-load.load at.0 has (omega (arith, c.loop-event.invariant.rank, c.if-rank-k.true))

pub loop-event-preserved-else-rank-k : goal.loop-event-preserved-else-rank-k
loop-event-preserved-else-rank-k g c =
    let front : c.loop-event.event-iterator ≡ c.in-Some.event ∷ c.next.new.self = search rules in
    let at = next_ahead c.args.log.now.events c.loop-event.position c.in-Some.event c.next.new.self (sym front
    ∙ c.loop-event.invariant.ahead) in
    let has : load_on c.args.side c.in-Some.event ≡ Some c.in-Some-load.load = search rules in
    record {
      ahead = at.1;
      within = omega (arith, slice_get_within c.args.log.now.events c.loop-event.position c.in-Some.event at.0);
      rank = omega (
        arith,
        c.loop-event.invariant.rank,
        counted_more (load_on c.args.side) c.args.log.now.events c.loop-event.position c.in-Some.event at.0,
        ap (λ o. length (cons_option o [])) has,
      );
      fewer = λ some. omega (arith, some, c.loop-event.invariant.fewer some, c.if-rank-k.false);
    }

pub loop-event-preserved : goal.loop-event-preserved
loop-event-preserved g c =
    let front : c.loop-event.event-iterator ≡ c.in-Some.event ∷ c.next.new.self = search rules in
    let at = next_ahead c.args.log.now.events c.loop-event.position c.in-Some.event c.next.new.self (sym front
    ∙ c.loop-event.invariant.ahead) in
    let none : load_on c.args.side c.in-Some.event ≡ None = search rules in
    record {
      ahead = at.1;
      within = omega (arith, slice_get_within c.args.log.now.events c.loop-event.position c.in-Some.event at.0);
      rank = omega (
        arith,
        c.loop-event.invariant.rank,
        counted_more (load_on c.args.side) c.args.log.now.events c.loop-event.position c.in-Some.event at.0,
        ap (λ o. length (cons_option o [])) none,
      );
      fewer = c.loop-event.invariant.fewer;
    }

pub returns : goal.returns
returns g c =
    let front : c.loop-event.event-iterator ≡ [] = search rules in
    none_left (load_on c.args.side) c.args.log.now.events c.loop-event.position c.args.k c.loop-event.rank (sym front
    ∙ c.loop-event.invariant.ahead) c.loop-event.invariant.rank c.loop-event.invariant.fewer
