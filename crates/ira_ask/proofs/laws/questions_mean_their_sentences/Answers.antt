use Rattle.ira_ask.proofs.Meaning.{question_of_sentence}
use Rattle.ira_ask.proofs.laws.questions_mean_their_sentences.Goals as goal

pub returns : goal.returns
returns c = question_of_sentence
