use Rattle.std.proofs.Common.{◌≡◌, IfOk, Ok, string_bytes, subst}
use Rattle.json.specs.Json.{object}
use Rattle.ira_view_json.specs.Line.{IsLineOf}
use Rattle.ira_view_json.specs.View.{view}
use Rattle.ira_view_json.proofs.Putting.{given}
use Rattle.ira_view_json.proofs.object.Object.into_line.Goals as goal

pub returns : goal.returns
returns g c = λ members holds. (let is : view c.in_ok-finish.field-0 ≡ object members =
    given {E = Unit {0}} (Ok c.in_ok-finish.field-0) holds c.in_ok-finish.ensures in
    subst (λ value. IfOk c.line_of.result (λ text. IsLineOf value (string_bytes text))) is c.line_of.ensures)
