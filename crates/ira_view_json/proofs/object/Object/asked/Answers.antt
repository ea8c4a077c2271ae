use Rattle.std.proofs.Common.{◌≡◌, ◌<◌, List, [], length, map}
use Rattle.std.specs.Prelude.{slice_index_or, codes}
use Rattle.std.proofs.lemmas.List.{get_or_read}
use Rattle.ira_pred.specs.Case.{Conjunct}
use Rattle.json.specs.Json.{array}
use Rattle.json.specs.Value.{items_of}
use Rattle.ira_view_json.specs.Members.{put}
use Rattle.ira_view_json.specs.PictureValue.{asked_value}
use Rattle.ira_view_json.proofs.Putting.{known, puts_by}
use Rattle.ira_view_json.proofs.object.Object.asked.Goals as goal

pub returns-in-OfCase : goal.returns-in-OfCase
returns-in-OfCase g c =
    let cases : List (List Conjunct) = c.in-OfCase.question.cases in
    let number = c.in-OfCase.number in
    let within : number < length cases = rw c.in-OfCase.is at c.requires in
    let same : c.cases.result.now ≡ cases = c.cases.ensures.value in
    let read : c.index-cases-number.result ≡ slice_index_or cases number [] =
    get_or_read cases number _ within (rw same at c.index-cases-number.is) [] in
    rw c.in-OfCase.is (puts_by (λ (case : List Conjunct). put (codes "asks") (array (items_of (map asked_value case)))) read (known _ c.asked_list.ensures c.value.ensures))
