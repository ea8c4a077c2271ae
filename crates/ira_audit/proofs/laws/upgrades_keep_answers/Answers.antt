use Rattle.ira_audit.proofs.Upgraded.{upgraded_text, same_answer_of_one, same_logs_answer, same_audit_answer}
use Rattle.ira_audit.proofs.laws.upgrades_keep_answers.Goals as goal

pub returns-clause-texts : goal.returns-clause-texts
returns-clause-texts c = upgraded_text

pub returns-clause-one_log : goal.returns-clause-one_log
returns-clause-one_log c = same_answer_of_one

pub returns-clause-ring_logs : goal.returns-clause-ring_logs
returns-clause-ring_logs c = same_logs_answer

pub returns-clause-certified : goal.returns-clause-certified
returns-clause-certified c = same_audit_answer
