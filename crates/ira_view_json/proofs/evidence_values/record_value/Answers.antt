use Rattle.std.proofs.Common.{◌∙◌, ap}
use Rattle.json.specs.Json.{string}
use Rattle.ira_view_json.proofs.Putting.{page_words}
use Rattle.ira_view_json.proofs.Views.{view-Text}
use Rattle.ira_view_json.proofs.evidence_values.record_value.Goals as goal

pub returns : goal.returns
returns g c =
    view-Text c.into_string.result
    ∙ ap string (c.into_string.ensures.text ∙ page_words c.new-record.ensures c.event.ensures c.in_ok-finish.ensures)
