use Rattle.std.proofs.Common.{[]}
use Rattle.ira_audit.specs.LogTextAnswer.{IsLogTextAnswer}
use Rattle.ira_audit.proofs.Replaying.{ok_exactly}
use Rattle.ira_audit.proofs.audits.audit_one.Goals as goal

pub returns-clause-answer : goal.returns-clause-answer
returns-clause-answer g c =
    λ a. ok_exactly (IsLogTextAnswer c.args.text.now) c.finish.result a (c.finish.ensures.answer [] a c.new.ensures)
