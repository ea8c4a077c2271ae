use Rattle.ira_view_page.proofs.Adding.{◌&◌}
use Rattle.ira_view_explain_question.proofs.moment_lines.print_more_loads.Goals as goal

pub returns-then-told-gt-MOST_LOADS : goal.returns-then-told-gt-MOST_LOADS
returns-then-told-gt-MOST_LOADS g c =
    (_, c.words-then-told-gt-MOST_LOADS.ensures & c.number.ensures & c.words-then-told-gt-MOST_LOADS-2.ensures)
