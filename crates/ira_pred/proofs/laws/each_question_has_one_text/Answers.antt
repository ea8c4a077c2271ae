use Rattle.ira_pred.proofs.QuestionTexts.{one_text}
use Rattle.ira_pred.proofs.laws.each_question_has_one_text.Goals as goal

pub returns : goal.returns
returns c = one_text
