use Rattle.std.proofs.Common.{◌∙◌, ap, sym}
use mathlib.Core.List.{map-map}
use Rattle.std.specs.Prelude.{List, codes, map}
use Rattle.json.specs.Json.{Json, array}
use Rattle.json.specs.Value.{items_of}
use Rattle.ira_view_picture.specs.Picture.{drawn_of}
use Rattle.ira_view_picture.specs.declared.arrow.Arrow.{Arrow}
use Rattle.ira_view_picture.specs.declared.lane.Lane.{Lane}
use Rattle.ira_view_json.specs.Members.{put}
use Rattle.ira_view_json.specs.PictureValue.{arrow_value, lane_value}
use Rattle.ira_view_json.proofs.Putting.{◌&◌, held, known, puts_by}
use Rattle.ira_view_json.proofs.picture_values.picture_line.Goals as goal

pub returns : goal.returns
returns g c =
    let window = c.number.ensures & c.number-2.ensures & c.number-3.ensures & c.column.ensures in
    let lanes = puts_by (λ (values : List Json). put (codes "lanes") (array (items_of values)))
    (sym (map-map lane_value drawn_of c.deref.result.now)
    ∙ ap (λ (lanes : List (Lane g.row.B.Denot)). map lane_value (map drawn_of lanes)) c.deref.ensures.value)
    (known _ c.list_value.ensures c.value.ensures) in
    let arrows = puts_by (λ (arrows : List Arrow). put (codes "arrows") (array (items_of (map arrow_value arrows))))
    c.deref-2.ensures.value (known _ c.list_value-2.ensures c.value-2.ensures) in
    c.into_line.ensures _ (held c.of-object.ensures (window & c.asked.ensures & lanes & arrows))
