use Rattle.std.proofs.Common.{◌≡◌, ◌∙◌, ◌∷◌, ◌++◌, [], ap, arith, length, map, rules, subst, sym}
use Rattle.std.specs.Prelude.{slice_index_or}
use Rattle.std.proofs.lemmas.Option.{get_or_from_slice_get}
use Rattle.std.proofs.lemmas.List.{length-map, length_push, map-append}
use Rattle.ira_order.specs.Ring.{events_of, log_of}
use Rattle.ira_view_picture.specs.declared.lane.Lane.{Lane}
use Rattle.ira_view_picture.specs.Rows.{IsRow}
use Rattle.ira_view_picture.specs.Picture.{Drawn, IsDrawnOf, drawn_of}
use Rattle.ira_view_picture.proofs.NodeLanes.{drawn_more, traffic_more}
use Rattle.ira_view_picture.proofs.picture.nodes_of_ring.Goals as goal

pub row-requires : goal.row-requires
row-requires g c =
    omega (arith, c.requires.places, c.loop-place-test.true, c.get-size.ensures.value, c.size.ensures.value)

pub of-requires : goal.of-requires
of-requires g c =
    let events : log_of c.args.logs.now c.loop-place.place ≡ c.log-log.result.now.events =
    ap events_of c.log-log.ensures.value in
    subst (λ es. IsRow es c.row.result.now) events
    (c.requires.each c.loop-place.place c.row.result.now c.row.ensures)

pub returns-clause-lanes : goal.returns-clause-lanes
returns-clause-lanes g c = record {
  places = length-map c.loop-place.lanes.items drawn_of ∙ search rules;
  each = λ i log d at_log at_d. c.loop-place.invariant.each i d at_d log at_log;
}

pub returns-clause-traffic : goal.returns-clause-traffic
returns-clause-traffic g c = record { places = search rules; each = c.loop-place.invariant.traffic }

pub loop-place-preserved : goal.loop-place-preserved
loop-place-preserved g c =
    let shown : Lane g.row.A.Denot → Drawn = drawn_of in
    let items : c.push.new.self.items ≡ c.loop-place.lanes.items ++ c.in_ok-lane.lane ∷ [] =
    c.in_ok-push.ensures.items in
    let mapped : map shown c.push.new.self.items ≡ map shown c.loop-place.lanes.items ++ shown c.in_ok-lane.lane ∷ [] =
    ap (map shown) items ∙ map-append shown c.loop-place.lanes.items (c.in_ok-lane.lane ∷ []) in
    let many : length (map shown c.loop-place.lanes.items) ≡ c.loop-place.place =
    length-map c.loop-place.lanes.items shown ∙ c.loop-place.invariant.number in
    let row : slice_index_or c.args.columns.now.nodes c.loop-place.place [] ≡ c.row.result.now =
    get_or_from_slice_get c.args.columns.now.nodes c.loop-place.place c.row.result.now [] c.row.ensures in
    let is : IsDrawnOf c.log-log.result.now (slice_index_or c.args.columns.now.nodes c.loop-place.place [])
    c.args.window (shown c.in_ok-lane.lane) =
    subst (λ cs. IsDrawnOf c.log-log.result.now cs c.args.window (shown c.in_ok-lane.lane)) (sym row) (record {
      events = c.in_ok-lane.ensures.events;
      start = c.in_ok-lane.ensures.start;
      marks = c.in_ok-lane.ensures.marks;
      replayed = c.in_ok-lane.ensures.end;
    }) in
    let sides : c.push-in-loop-place.new.self.items ≡ c.loop-place.traffic.items ++ c.in_ok-lane.sent_and_got ∷ [] =
    c.in_ok-push-2.ensures.items in
    record {
      number = omega (
        arith,
        ap length items,
        length_push c.loop-place.lanes.items c.in_ok-lane.lane,
        c.loop-place.invariant.number,
      );
      each = λ i d at.
          drawn_more c.args.logs.now c.args.columns.now.nodes c.args.window (map shown c.loop-place.lanes.items)
          c.loop-place.place (shown c.in_ok-lane.lane) c.log-log.result.now many c.loop-place.invariant.each
          c.log-log.ensures.value is
          i d (rw mapped at at);
      sides = omega (
        arith,
        ap length sides,
        length_push c.loop-place.traffic.items c.in_ok-lane.sent_and_got,
        c.loop-place.invariant.sides,
      );
      traffic = rw sides (traffic_more c.args.logs.now c.loop-place.traffic.items c.loop-place.place
          c.in_ok-lane.sent_and_got c.log-log.result.now c.loop-place.invariant.sides c.loop-place.invariant.traffic
          c.log-log.ensures.value c.in_ok-lane.ensures.traffic);
    }
