use Rattle.ira_view_page.specs.Page.{Added}
use Rattle.ira_view_page.proofs.Adding.{◌&◌}
use Rattle.ira_view_html.proofs.Finished.{finished}
use Rattle.ira_view_html.specs.HtmlPage.{IsHtmlPage, told_text}
use Rattle.ira_view_html.specs.declared.frame.TheConstants.{FOOT, HEAD, MIDDLE}
use Rattle.ira_view_html.specs.declared.script.TheConstants.{SCRIPT}
use Rattle.ira_view_html.proofs.page.html_page.Goals as goal

-- each addition with its constant by name, so that none of these long texts is computed
pub returns : goal.returns
returns g c =
    let head : Added c.new-page.result HEAD.now c.words.new.self = c.words.ensures in
    let json : Added c.words.new.self (told_text c.args.json.now) c.write_told.new.page = c.write_told.ensures in
    let middle : Added c.write_told.new.page MIDDLE.now c.words-2.new.self = c.words-2.ensures in
    let script : Added c.words-2.new.self SCRIPT.now c.words-3.new.self = c.words-3.ensures in
    let foot : Added c.words-3.new.self FOOT.now c.words-4.new.self = c.words-4.ensures in
    finished {P = IsHtmlPage c.args.json.now} c.finish.result (λ text e. record { is = e }) c.new-page.ensures
    (head & json & middle & script & foot) c.finish.ensures
