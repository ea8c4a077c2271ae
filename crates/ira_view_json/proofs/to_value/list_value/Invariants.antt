use Rattle.std.proofs.Common.{◌≡◌, map, take}
use Rattle.ira_view_json.specs.View.{view}
use Rattle.ira_view_json.proofs.to_value.list_value.Given as goal

abbrev pub invariant-loop-item : goal.invariant-loop-item
invariant-loop-item g l = map view l.list.items ≡ map g.T.ToValue.json (take l.item-index l.items)
