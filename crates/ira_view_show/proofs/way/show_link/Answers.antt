use Rattle.std.proofs.Common.{◌∙◌, sym}
use Rattle.ira_view_page.proofs.Adding.{◌&◌, added_as}
use Rattle.ira_view_show.proofs.Parts.{some_loads}
use Rattle.ira_view_show.proofs.way.show_link.Goals as goal

pub returns : goal.returns
returns g c =
    added_as
    (some_loads c.args.link c.args.reader c.args.loads.now (sym c.is_empty.ensures ∙ c.if-is_empty.false))
    (c.begin.ensures & c.words.ensures & c.number.ensures & c.words-2.ensures & c.number-2.ensures & c.words-3.ensures
    & c.number-3.ensures & c.words-4.ensures & c.show_loads.ensures & c.end.ensures)
