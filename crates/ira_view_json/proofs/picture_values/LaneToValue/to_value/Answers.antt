use Rattle.std.specs.Prelude.{List, codes, map}
use Rattle.json.specs.Json.{array}
use Rattle.json.specs.Value.{items_of}
use Rattle.ira_view_picture.specs.declared.band.Band.{Band}
use Rattle.ira_view_picture.specs.declared.band.Span.{Span}
use Rattle.ira_view_picture.specs.declared.mark.Mark.{Mark}
use Rattle.ira_view_json.specs.Members.{put}
use Rattle.ira_view_json.specs.PictureValue.{band_value, mark_value, span_value}
use Rattle.ira_view_json.proofs.Putting.{◌&◌, given, held, known, puts_by}
use Rattle.ira_view_json.proofs.picture_values.LaneToValue.to_value.Goals as goal

pub returns : goal.returns
returns g c =
    given c.finish.result
    (held c.new-object.ensures
    (c.number.ensures & known _ c.after_value.ensures c.value.ensures
    & puts_by (λ (marks : List Mark). put (codes "marks") (array (items_of (map mark_value marks)))) c.deref.ensures.value
    (known _ c.list_value.ensures c.value-2.ensures)
    & puts_by (λ (bands : List Band). put (codes "bands") (array (items_of (map band_value bands))))
    c.deref-2.ensures.value (known _ c.list_value-2.ensures c.value-3.ensures)
    & puts_by (λ (spans : List Span). put (codes "debts") (array (items_of (map span_value spans))))
    c.deref-3.ensures.value (known _ c.list_value-3.ensures c.value-4.ensures)
    & known _ c.state_value.ensures c.value-5.ensures & c.first_fault.ensures))
    c.finish.ensures
