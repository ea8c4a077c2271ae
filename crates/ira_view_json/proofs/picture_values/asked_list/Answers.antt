use Rattle.std.proofs.Common.{◌∙◌, ◌<◌, ◌≤◌, ap, arith, length, map, refl}
use Rattle.ira_pred.specs.Case.{Conjunct}
use Rattle.ira_pred.specs.Clause.{formula}
use Rattle.ira_view_json.specs.PictureValue.{asked_value}
use Rattle.ira_view_json.specs.View.{view}
use Rattle.ira_view_json.proofs.ExplainedLists.{list_more, list_whole, read_conjunct}
use Rattle.ira_view_json.proofs.picture_values.asked_list.Goals as goal

pub loop-n-preserved : goal.loop-n-preserved
loop-n-preserved g c =
    let case = c.args.case.now in
    let n = c.loop-n.n in
    let within : n < length case =
    omega (arith, c.loop-n-test.true, c.loop-n.auto.n-end, c.len-n-end.ensures.value) in
    let asked : Conjunct = record { place = c.place.result; formula = formula c.clause.result.now } in
    ap (map view) c.in_ok-push.ensures.items
    ∙ list_more asked_value c.loop-n.list.items c.in_ok-asked_value.field-0 case n asked within
    (read_conjunct case n _ _ within c.place.ensures c.clause.ensures asked refl) c.loop-n.invariant
    c.in_ok-asked_value.ensures

pub returns : goal.returns
returns g c =
    let all : length c.args.case.now ≤ c.loop-n.n =
    omega (arith, c.loop-n-test.false, c.len-n-end.ensures.value) in
    list_whole asked_value c.loop-n.list c.args.case.now c.loop-n.n all c.loop-n.invariant
