use Rattle.std.proofs.Common.{refl}
use Rattle.ira_view_page.proofs.Adding.{◌&◌}
use Rattle.ira_view_explain_question.proofs.explained_case.ExplainedCase.print.Goals as goal

pub print-requires : goal.print-requires
print-requires g c = (c.args.found.now, c.in_ok-finding.ensures)

pub returns : goal.returns
returns g c = (
  _,
  record {
    case = c.args.self.now.case.now;
    is_case = c.args.self.now.is_there;
    finding = c.in_ok-finding.finding;
    is_finding = c.in_ok-finding.ensures;
    clauses = c.print_clauses.ensures.0;
    are_clauses = c.print_clauses.ensures.1;
    lines = c.print.ensures.0;
    tells = c.print.ensures.1;
    is = refl;
  },
  c.blank.ensures & c.begin.ensures & c.words.ensures & c.number.ensures & c.words-2.ensures
      & c.print_clauses.ensures.2 & c.words-3.ensures & c.end.ensures & c.print.ensures.2,
)
