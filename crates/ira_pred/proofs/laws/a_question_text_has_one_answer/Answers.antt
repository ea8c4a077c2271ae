use Rattle.ira_pred.proofs.EachText.{each_text}
use Rattle.ira_pred.proofs.MemoryFaults.{not_out_of_memory}
use Rattle.ira_pred.proofs.QuestionAnswers.{question_or_fault, one_fault}
use Rattle.ira_pred.proofs.laws.a_question_text_has_one_answer.Goals as goal

pub returns-clause-answer : goal.returns-clause-answer
returns-clause-answer c = each_text

pub returns-clause-question_or_fault : goal.returns-clause-question_or_fault
returns-clause-question_or_fault c = question_or_fault

pub returns-clause-one_fault : goal.returns-clause-one_fault
returns-clause-one_fault c = one_fault

pub returns-clause-memory : goal.returns-clause-memory
returns-clause-memory c = not_out_of_memory
