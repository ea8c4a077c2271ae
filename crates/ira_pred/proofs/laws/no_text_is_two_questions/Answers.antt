use Rattle.ira_pred.proofs.QuestionTexts.{one_question}
use Rattle.ira_pred.proofs.laws.no_text_is_two_questions.Goals as goal

pub returns : goal.returns
returns c = one_question
