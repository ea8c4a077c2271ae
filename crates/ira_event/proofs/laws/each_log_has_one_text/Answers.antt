use Rattle.ira_event.proofs.LogAnswers.{one_text}
use Rattle.ira_event.proofs.laws.each_log_has_one_text.Goals as goal

pub returns : goal.returns
returns c = one_text
