use Rattle.std.proofs.Common.{rules}
use Rattle.ira_audit.proofs.RefusedTexts.{refused_again}
use Rattle.ira_audit.proofs.ring_audit.RingAudit.gather.Goals as goal

pub returns-in_err-logs : goal.returns-in_err-logs
returns-in_err-logs g c = λ texts taken.
    refused_again _ _ _ _ c.from_residual.result c.in_err-logs.field-0.0 (search rules)
    (c.in_err-logs.ensures.texts texts taken) (λ r h. h)

pub returns : goal.returns
returns g c = λ texts taken. (c.in_ok-logs.ensures.texts texts taken, c.in_ok-logs.ensures.replayed.0)
