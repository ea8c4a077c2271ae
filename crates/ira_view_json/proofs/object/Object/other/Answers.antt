use Rattle.ira_view_json.proofs.Putting.{◌&◌}
use Rattle.ira_view_json.proofs.object.Object.other.Goals as goal

pub returns : goal.returns
returns g c = c.record.ensures & rw c.words.ensures.words at c.words-2.ensures & c.flag.ensures
