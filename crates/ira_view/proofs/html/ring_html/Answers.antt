use Rattle.std.proofs.Common.{◌≡◌, ◌∙◌, ◌++◌, ℕ, List, ap, length, map, string_bytes, subst, sym}
use Rattle.std.specs.List.{zip}
use Rattle.ira_event.specs.Log.{Log}
use Rattle.ira_view_html.specs.HtmlPage.{IsHtmlPage}
use Rattle.ira_view.specs.Html.{AreLogLines}
use Rattle.ira_view.proofs.html.ring_html.Goals as goal

pub add_logs-requires : goal.add_logs-requires
add_logs-requires g c =
    subst (λ (logs : List Log). length c.args.files.now ≡ length logs) (sym c.logs.ensures) c.requires

pub returns-clause-html : goal.returns-clause-html
returns-clause-html g c =
    let names = map (λ name. string_bytes name) c.args.files.now in
    let added = c.in_ok-add_logs.ensures in
    let picture = string_bytes c.in_ok-picture.picture in
    let told = string_bytes c.add_logs.new.told in
    let lines = subst (λ (logs : List Log). AreLogLines (zip names logs) added.0) c.logs.ensures added.1 in
    let all = c.as_bytes.ensures.value ∙ c.in_ok-push_str.ensures.bytes ∙ ap (λ (more : List ℕ). told ++ more) c.as_str.ensures.value in (
      names,
      (
        picture,
        told,
        c.in_ok-picture.ensures.picture,
        (string_bytes c.in_ok-told.told, added.0, c.in_ok-told.ensures, lines, added.2),
        subst (λ (text : List ℕ). IsHtmlPage text c.in_ok-html_page.field-0) all c.in_ok-html_page.ensures,
      ),
    )
