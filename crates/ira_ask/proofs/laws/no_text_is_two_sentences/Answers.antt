use Rattle.ira_ask.proofs.Nodes.{one_said}
use Rattle.ira_ask.proofs.laws.no_text_is_two_sentences.Goals as goal

pub returns : goal.returns
returns c = one_said
