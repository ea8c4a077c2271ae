use Rattle.ira_audit.proofs.SomeAuditAnswer.{some_audit_answer}
use Rattle.ira_audit.proofs.SomeLogsAnswer.{some_answer, some_logs_answer}
use Rattle.ira_audit.proofs.laws.texts_have_answers.Goals as goal

pub returns-clause-one_log : goal.returns-clause-one_log
returns-clause-one_log c = some_answer

pub returns-clause-ring_logs : goal.returns-clause-ring_logs
returns-clause-ring_logs c = some_logs_answer

pub returns-clause-certified : goal.returns-clause-certified
returns-clause-certified c = some_audit_answer
