use Rattle.std.proofs.Common.{◌∙◌, ap, map}
use Rattle.ira_view_json.specs.View.{view}
use Rattle.ira_view_json.proofs.ExplainedLists.{list_more, list_whole}
use Rattle.ira_view_json.proofs.to_value.list_value.Goals as goal

pub loop-item-preserved : goal.loop-item-preserved
loop-item-preserved g c =
    ap (map view) c.in_ok-push.ensures.items
    ∙ list_more g.T.ToValue.json c.loop-item.list.items c.in_ok-to_value.field-0 c.args.items.now
    c.loop-item.item-index c.item-item.result c.loop-item-test.true c.item-item.is c.loop-item.invariant
    c.in_ok-to_value.ensures

pub returns : goal.returns
returns g c =
    list_whole g.T.ToValue.json c.loop-item.list c.args.items.now c.loop-item.item-index c.loop-item-test.false
    c.loop-item.invariant
