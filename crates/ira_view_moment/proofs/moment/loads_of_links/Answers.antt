use Rattle.std.proofs.Common.{◌≡◌, ◌∙◌, ◌∷◌, ◌++◌, ◌<◌, [], Vec, ap, arith, drop, length, map, subst, sym, take}
use Rattle.std.specs.Prelude.{slice_index}
use Rattle.std.proofs.lemmas.List.{length-map, length_push, map-append}
use Rattle.ira_event.specs.declared.load.Load.{Load}
use Rattle.ira_event.specs.Messages.{sent}
use Rattle.ira_order.specs.Ring.{events_of, log_of, next}
use Rattle.ira_order.proofs.Ranks.{next_below}
use Rattle.ira_view_moment.specs.Moment.{AreOnTheirWay}
use Rattle.ira_view_moment.proofs.OnTheWay.{link_more, on_their_way, received_is}
use Rattle.ira_view_moment.proofs.moment.loads_of_links.Goals as goal

pub sendings_after-requires-clause-number : goal.sendings_after-requires-clause-number
sendings_after-requires-clause-number g c =
    let there = (c.requires.each c.loop-link.link c.log.result.now c.progress_of-number.result c.log.ensures.value
    c.progress_of-number.ensures).sent in
    rw c.from-in-loop-link.ensures there

pub loop-link-preserved : goal.loop-link-preserved
loop-link-preserved g c =
    let logs = c.args.logs.now in
    let cut = c.args.cut.now in
    let link = c.loop-link.link in
    let new = c.in_ok-sendings_after.field-0 in
    let n : c.get-size.result ≡ length c.args.logs.now = c.get-size.ensures.value ∙ c.size.ensures.value in
    let below : c.loop-link.link < length c.args.logs.now = omega (arith, c.loop-link-test.true, n) in
    let to : c.successor.result ≡ next (length c.args.logs.now) c.loop-link.link =
    c.successor.ensures.value ∙ ap (λ k. next k c.loop-link.link) n in
    let received = received_is logs cut c.args.nodes.now (next (length c.args.logs.now) c.loop-link.link)
    c.progress_of-received.result c.requires.each (next_below (length c.args.logs.now) link below)
    (rw to at c.progress_of-received.ensures) in
    let events : log_of c.args.logs.now c.loop-link.link ≡ c.log.result.now.events = ap events_of c.log.ensures.value in
    let held : c.in_ok-sendings_after.field-0.items
    ≡ drop c.progress_of-received.result.received
    (sent (take (slice_index c.args.cut.now c.from-in-loop-link.result) c.log.result.now.events)) =
    c.in_ok-sendings_after.ensures in
    let here : c.in_ok-sendings_after.field-0.items
    ≡ drop c.progress_of-received.result.received
    (sent (take (slice_index c.args.cut.now c.loop-link.link) (log_of c.args.logs.now c.loop-link.link))) =
    rw events (rw c.from-in-loop-link.ensures at held) in
    let is : AreOnTheirWay c.args.logs.now c.args.cut.now c.loop-link.link c.in_ok-sendings_after.field-0.items =
    subst (AreOnTheirWay c.args.logs.now c.args.cut.now c.loop-link.link) (sym here)
    (on_their_way logs cut link c.progress_of-received.result.received c.requires.matches c.requires.cut below received) in
    let items : c.push.new.self.items ≡ c.loop-link.links.items ++ c.in_ok-sendings_after.field-0 ∷ [] =
    c.in_ok-push.ensures.items in
    let mapped : map (λ (x : Vec Load g.row.A.Denot). x.items) c.push.new.self.items
    ≡ map (λ (x : Vec Load g.row.A.Denot). x.items) c.loop-link.links.items ++ c.in_ok-sendings_after.field-0.items
    ∷ [] =
    ap (map (λ (x : Vec Load g.row.A.Denot). x.items)) items
    ∙ map-append (λ (x : Vec Load g.row.A.Denot). x.items) c.loop-link.links.items (c.in_ok-sendings_after.field-0
    ∷ []) in
    let many : length (map (λ (x : Vec Load g.row.A.Denot). x.items) c.loop-link.links.items) ≡ c.loop-link.link =
    length-map c.loop-link.links.items (λ (x : Vec Load g.row.A.Denot). x.items) ∙ c.loop-link.invariant.number in
    record {
      number = omega (
        arith,
        ap length items,
        length_push c.loop-link.links.items c.in_ok-sendings_after.field-0,
        c.loop-link.invariant.number,
      );
      each = λ i loads at.
          link_more logs cut (map (λ (x : Vec Load g.row.A.Denot). x.items) c.loop-link.links.items) link
          c.in_ok-sendings_after.field-0.items many c.loop-link.invariant.each is i loads (rw mapped at at);
    }
