use Rattle.std.proofs.Common.{◌∙◌, ap}
use Rattle.json.specs.Json.{string}
use Rattle.ira_view_json.proofs.Putting.{page_words}
use Rattle.ira_view_json.proofs.Views.{view-Text}
use Rattle.ira_view_json.proofs.picture_values.clause_value.Goals as goal

pub returns : goal.returns
returns g c =
    view-Text c.into_string.result
    ∙ ap string (c.into_string.ensures.text ∙ page_words c.new-words.ensures c.clause.ensures c.in_ok-finish.ensures)
