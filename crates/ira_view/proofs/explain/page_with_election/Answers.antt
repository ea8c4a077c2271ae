use Rattle.std.proofs.lemmas.Result.{IfOk-weaker}
use Rattle.ira_view_page.proofs.Adding.{◌&◌, finished}
use Rattle.ira_view.proofs.explain.page_with_election.Goals as goal

pub returns : goal.returns
returns g c =
    IfOk-weaker c.finish.result _ _ (λ text is. record { above = c.as_str.result.now; text = is })
    (finished c.finish.result c.new-whole.ensures (c.words.ensures & c.blank.ensures & c.print_election.ensures)
    c.finish.ensures)
