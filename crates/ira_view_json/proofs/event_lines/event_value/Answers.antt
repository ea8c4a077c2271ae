use Rattle.ira_view_json.proofs.Putting.{◌&◌, given, held}
use Rattle.ira_view_json.proofs.event_lines.event_value.Goals as goal

pub returns : goal.returns
returns g c =
    given c.finish.result
    (held c.of-object.ensures
    (c.number.ensures & c.number-2.ensures & c.number-3.ensures & rw c.line_of.ensures.value at c.number-4.ensures
    & c.event.ensures & c.number-5.ensures & c.flag.ensures & c.sender.ensures & c.state.ensures)) c.finish.ensures
