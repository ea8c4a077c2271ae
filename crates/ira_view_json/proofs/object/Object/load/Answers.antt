use Rattle.ira_view_json.proofs.Putting.{◌&◌}
use Rattle.ira_view_json.proofs.object.Object.load.Goals as goal

pub returns-in-Msg : goal.returns-in-Msg
returns-in-Msg g c =
    rw c.in-Msg.is (c.number.ensures & c.number-in-Msg.ensures & c.number-in-Msg-2.ensures & c.flag.ensures)
