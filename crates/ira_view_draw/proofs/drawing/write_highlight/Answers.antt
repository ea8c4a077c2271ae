use Rattle.ira_view_page.proofs.Adding.{◌&◌}
use Rattle.ira_view_draw.proofs.drawing.write_highlight.Goals as goal

pub returns : goal.returns
returns g c = (_, c.write_circle.ensures.1 & c.begin_words.ensures.1 & c.write.ensures.1 & c.words.ensures)
