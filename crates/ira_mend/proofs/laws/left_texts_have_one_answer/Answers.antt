use Rattle.ira_mend.proofs.OneReason.{left_texts_are_one, no_reason_against_a_ring, recorded_reasons_are_one}
use Rattle.ira_mend.proofs.laws.left_texts_have_one_answer.Goals as goal

pub returns-clause-logs : goal.returns-clause-logs
returns-clause-logs c = left_texts_are_one

pub returns-clause-reasons : goal.returns-clause-reasons
returns-clause-reasons c = recorded_reasons_are_one

pub returns-clause-none : goal.returns-clause-none
returns-clause-none c = no_reason_against_a_ring
