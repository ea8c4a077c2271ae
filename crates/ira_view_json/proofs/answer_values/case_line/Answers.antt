use Rattle.ira_view_json.specs.ExplainedFindings.{with_asks}
use Rattle.ira_view_json.proofs.Putting.{held, puts_by}
use Rattle.ira_view_json.proofs.answer_values.case_line.Goals as goal

pub returns : goal.returns
returns g c =
    c.into_line.ensures _ (held c.found_for-object.ensures (puts_by with_asks c.asked_case.ensures c.asks.ensures))
