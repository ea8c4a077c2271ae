use Rattle.ira_view_json.proofs.Putting.{◌&◌}
use Rattle.ira_view_json.proofs.object.Object.phase.Goals as goal

pub returns-in-Active : goal.returns-in-Active
returns-in-Active g c =
    rw c.in-Active.is (c.words-in-Active.ensures & c.number-in-Active.ensures & c.number-in-Active-2.ensures)

pub returns-in-Leader : goal.returns-in-Leader
returns-in-Leader g c =
    rw c.in-Leader.is (c.words-in-Leader.ensures & c.number-in-Leader.ensures & c.number-in-Leader-2.ensures)
