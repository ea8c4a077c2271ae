use Rattle.ira_view_page.proofs.Adding.{◌&◌}
use Rattle.ira_view_draw.proofs.svg.Svg.once_more.Goals as goal

pub returns : goal.returns
returns g c =
    c.words.ensures & c.attribute.ensures & c.number.ensures & c.attribute-2.ensures & c.words-2.ensures
