use Rattle.ira_view_page.proofs.Adding.{◌&◌}
use Rattle.ira_view_draw.proofs.moment_line.write_words_above.Goals as goal

pub returns : goal.returns
returns g c =
    let x = rw c.x-x.ensures.place at c.number.ensures in
    let anchor = rw (c.anchor.ensures, c.x-x.ensures.place) at c.attribute.ensures in
    c.open.ensures & x & c.number-2.ensures & anchor & c.words.ensures & c.write_words.ensures & c.words-2.ensures
