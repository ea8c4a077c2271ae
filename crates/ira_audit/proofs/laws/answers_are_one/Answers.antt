use Rattle.ira_audit.proofs.OneAnswer.{one_answer, one_logs_answer}
use Rattle.ira_audit.proofs.OneAuditAnswer.{one_audit_answer}
use Rattle.ira_audit.proofs.laws.answers_are_one.Goals as goal

pub returns-clause-one_log : goal.returns-clause-one_log
returns-clause-one_log c = one_answer

pub returns-clause-ring_logs : goal.returns-clause-ring_logs
returns-clause-ring_logs c = one_logs_answer

pub returns-clause-certified : goal.returns-clause-certified
returns-clause-certified c = one_audit_answer
