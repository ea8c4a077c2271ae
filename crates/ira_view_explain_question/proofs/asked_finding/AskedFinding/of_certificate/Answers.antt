use Rattle.std.proofs.Common.{codes, subst}
use Rattle.ira_view_explain_question.specs.AskedFinding.{IsHeadStop}
use Rattle.ira_view_explain_question.proofs.asked_finding.AskedFinding.of_certificate.Goals as goal

pub returns-in-Head : goal.returns-in-Head
returns-in-Head c = rw c.in-Head.is
    (subst (λ beside. IsHeadStop c.args.file.now.text.now (codes "ircert 1") beside c.of_head.result.stop)
    c.due.ensures c.of_head.ensures)
