use Rattle.ira_view_json.proofs.Putting.{◌&◌, given, held}
use Rattle.ira_view_json.proofs.evidence_values.EvidenceToValue.to_value.Goals as goal

pub returns : goal.returns
returns g c =
    given c.finish.result (held c.new-object.ensures (rw c.role_of.ensures at c.words.ensures & c.told.ensures))
    c.finish.ensures
