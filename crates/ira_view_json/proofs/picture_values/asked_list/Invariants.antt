use Rattle.std.proofs.Common.{◌≡◌, map, take}
use Rattle.ira_view_json.specs.View.{view}
use Rattle.ira_view_json.specs.PictureValue.{asked_value}
use Rattle.ira_view_json.proofs.picture_values.asked_list.Given as goal

abbrev pub invariant-loop-n : goal.invariant-loop-n
invariant-loop-n g l = map view l.list.items ≡ map asked_value (take l.n l.case)
