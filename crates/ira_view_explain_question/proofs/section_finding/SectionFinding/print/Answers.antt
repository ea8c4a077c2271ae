use Rattle.ira_view_page.proofs.Adding.{◌&◌}
use Rattle.ira_view_explain_question.proofs.section_finding.SectionFinding.print.Goals as goal

pub returns : goal.returns
returns g c =
    c.begin.ensures & c.place.ensures & c.words.ensures & c.print.ensures & c.end.ensures & c.print_left.ensures
    & c.print_left-2.ensures
