use Rattle.std.proofs.Common.{◌∙◌, ◌++◌, ℕ, List, None, ap, map, refl, string_bytes, subst}
use Rattle.ira_view_html.specs.HtmlPage.{IsHtmlPage}
use Rattle.ira_view_moment.specs.Told.{at_end}
use Rattle.ira_view_picture.specs.Picture.{drawn_of}
use Rattle.ira_view.proofs.Pictures.{picture_told}
use Rattle.ira_view.proofs.html.refused_html.Goals as goal

pub returns-clause-html : goal.returns-clause-html
returns-clause-html g c =
    let picture = c.in_ok-picture.picture in
    let line = string_bytes c.in_ok-picture_line.field-0 in
    let told = c.args.told.now in
    let text = c.deref.ensures.value ∙ c.in_ok-extend_from_slice-2.ensures.items
    ∙ ap (λ (before : List ℕ). before ++ c.as_bytes.result.now) (c.in_ok-extend_from_slice.ensures.items
    ∙ ap (λ (none : List ℕ). none ++ told) c.new-lines.ensures.items)
    ∙ ap (λ (more : List ℕ). told ++ more) c.as_bytes.ensures.value in (
      line,
      told,
      picture_told c.args.logs.now at_end None None c.args.columns.from c.args.columns.to picture.window
          picture.last picture.line (map drawn_of picture.lanes.items) picture.arrows.items line refl
          c.in_ok-picture.ensures.window c.in_ok-picture.ensures.shown
          c.in_ok-picture_line.ensures,
      refl,
      subst (λ (all : List ℕ). IsHtmlPage all c.in_ok-html_page.field-0) text c.in_ok-html_page.ensures,
    )
