use Rattle.ira_ask.proofs.Valid.{question_has_text}
use Rattle.ira_ask.proofs.laws.questions_have_texts.Goals as goal

pub returns : goal.returns
returns c = question_has_text
