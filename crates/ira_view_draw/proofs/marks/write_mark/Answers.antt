use Rattle.std.proofs.Common.{List, ℕ, subst}
use Rattle.std.specs.Prelude.{codes}
use Rattle.ira_view_page.proofs.Adding.{◌&◌}
use Rattle.ira_view_page.specs.Page.{Added}
use Rattle.ira_view_draw.specs.Svg.{tag_text}
use Rattle.ira_view_draw.proofs.marks.write_mark.Goals as goal

pub returns : goal.returns
returns g c =
    let tag = subst (λ (class : List ℕ). Added c.args.out.now.page (tag_text (codes "path") class) c.open.new.self.page)
    c.class_of.ensures c.open.ensures in
    let shape = rw (c.x.ensures.place, c.y.ensures.place) at c.write_shape.ensures in
    tag & c.event.ensures & c.words.ensures & shape & c.words-2.ensures & c.write_title.ensures & c.words-3.ensures
