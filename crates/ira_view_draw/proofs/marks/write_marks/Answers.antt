use Rattle.std.proofs.Common.{◌≡◌, ◌≤◌, ◌∙◌, List, Some, ap, arith, length, map, refl, subst}
use Rattle.std.specs.Prelude.{slice_get}
use Rattle.std.specs.List.{enumerate_from, flat_map}
use Rattle.std.specs.Option.{option_map}
use Rattle.std.proofs.lemmas.List.{length-map, take_all}
use Rattle.std.proofs.lemmas.List.FromFn.{length-enumerate_from}
use Rattle.std.proofs.lemmas.Option.{slice_get-map, slice_get_read}
use Rattle.ira_view_page.proofs.Adding.{◌&◌, added_as, added_at, element_at}
use Rattle.ira_view_picture.specs.declared.lane.Lane.{Lane}
use Rattle.ira_view_picture.specs.Picture.{Drawn, drawn_of}
use Rattle.ira_view_draw.specs.Marks.{lane_text}
use Rattle.ira_view_draw.proofs.marks.write_marks.Goals as goal

pub loop-place-preserved : goal.loop-place-preserved
loop-place-preserved g c =
    let shown : Lane g.row.A.Denot → Drawn = drawn_of in
    let lanes = c.deref-lane-items.result.now in
    let i = c.loop-place.place in
    let found : slice_get c.deref-lane-items.result.now i ≡ Some c.lane-item.result =
    slice_get_read lanes (length lanes) i c.lane-item.result refl c.loop-place-test.true c.lane-item.is in
    let mapped : slice_get (map shown c.deref-lane-items.result.now) i ≡ Some (shown c.lane-item.result) =
    slice_get-map shown lanes i ∙ ap (option_map shown) found in
    let there : slice_get (map shown c.args.picture.now.lanes.items) i ≡ Some (shown c.lane-item.result) =
    subst (λ (all : List (Lane g.row.A.Denot)). slice_get (map shown all) i ≡ Some (shown c.lane-item.result))
    c.deref-lane-items.ensures.value mapped in
    added_at (lane_text c.args.grid.now.nodes c.args.grid.now.window)
    (enumerate_from 0 (map shown c.args.picture.now.lanes.items)) i (i, shown c.lane-item.result)
    (element_at (map shown c.args.picture.now.lanes.items) i (shown c.lane-item.result) there) c.loop-place.invariant
    c.write_lane.ensures

pub returns : goal.returns
returns g c =
    let shown : Lane g.row.A.Denot → Drawn = drawn_of in
    let lanes = c.args.picture.now.lanes.items in
    let all = enumerate_from 0 (map shown lanes) in
    let count : length all ≤ c.loop-place.place =
    omega (
      arith,
      length-enumerate_from 0 (map shown lanes),
      length-map lanes shown,
      c.loop-place-test.false,
      ap length c.deref-lane-items.ensures.value,
    ) in
    let text = lane_text c.args.grid.now.nodes c.args.grid.now.window in
    added_as (ap (flat_map text) (take_all c.loop-place.place all count)) c.loop-place.invariant
    & c.write_below.ensures
