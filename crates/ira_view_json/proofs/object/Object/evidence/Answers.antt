use Rattle.std.proofs.Common.{◌∙◌, sym}
use Rattle.ira_view_json.proofs.ExplainedLists.{some_evidence}
use Rattle.ira_view_json.proofs.Putting.{known, puts_as}
use Rattle.ira_view_json.proofs.object.Object.evidence.Goals as goal

pub returns : goal.returns
returns g c =
    puts_as (λ m. some_evidence c.args.evidence.now m (sym c.is_empty.ensures ∙ c.if-is_empty.false))
    (known _ c.list_value.ensures c.value.ensures)
