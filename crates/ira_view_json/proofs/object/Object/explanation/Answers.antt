use Rattle.ira_view_json.specs.ExplainedValue.{with_evidence, with_hints}
use Rattle.ira_view_json.proofs.Putting.{◌&◌, known, puts_by}
use Rattle.ira_view_json.proofs.object.Object.explanation.Goals as goal

pub returns : goal.returns
returns g c =
    c.ring.ensures & c.state_before.ensures & puts_by with_evidence c.deref.ensures.value c.evidence.ensures
    & puts_by with_hints c.deref-2.ensures.value (known _ c.list_value.ensures c.value.ensures)
