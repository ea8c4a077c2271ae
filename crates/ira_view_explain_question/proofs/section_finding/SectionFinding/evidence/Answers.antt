use Rattle.std.proofs.Common.{refl}
use Rattle.ira_view_explain_question.proofs.section_finding.SectionFinding.evidence.Goals as goal

pub returns : goal.returns
returns g c =
    let line = c.in_ok-line_told.ensures in
    record {
      name = line.0;
      name_is = line.1;
      told_is =
          rw (c.in_ok-push_left-2.ensures, c.in_ok-push_left.ensures, c.in_ok-push.ensures.items, c.new-told.ensures.items, line.2)
          refl;
    }
