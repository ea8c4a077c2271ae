use Rattle.ira_view_page.proofs.Printables.{printable_decimal}
use Rattle.ira_view_page.proofs.page.Page.number.Goals as goal

pub words-requires : goal.words-requires
words-requires g c = rw c.format.ensures.text (printable_decimal c.args.n c.ranges.n.fits)
