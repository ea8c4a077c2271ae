use Rattle.ira_view_json.proofs.Putting.{◌&◌, held}
use Rattle.ira_view_json.proofs.folder_lines.unread_line.Goals as goal

pub returns : goal.returns
returns g c =
    c.into_line.ensures _
    (held c.of-object.ensures
    (c.words.ensures & c.text.ensures & c.number.ensures & c.number-2.ensures & c.folder.ensures))
