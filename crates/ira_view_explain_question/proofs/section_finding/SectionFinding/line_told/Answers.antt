use Rattle.std.proofs.Common.{refl}
use Rattle.ira_view_explain_question.proofs.section_finding.SectionFinding.line_told.Goals as goal
use Rattle.ira_view_explain_question.proofs.section_finding.SectionFinding.line_told.Goals.{in-Spent, in-Step}

pub returns : goal.returns
returns g c = (
  c.in_ok-file.file,
  c.in_ok-file.ensures.ok,
  elim c.match-self.branch [
    | in-Step w ↦ rw (w.result-is, w.in-Step.is) refl
    | in-Spent w ↦ rw (w.result-is, w.in-Spent.is) refl
  ],
)
