use Rattle.ira_view_page.proofs.Adding.{◌&◌}
use Rattle.ira_view_draw.proofs.drawing.write_circle.Goals as goal

pub returns : goal.returns
returns g c = (
  _,
  c.open.ensures & c.attribute.ensures & c.number.ensures & c.number-2.ensures & c.number-3.ensures & c.words.ensures,
)
