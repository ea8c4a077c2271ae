use Rattle.ira_event.proofs.LogAnswers.{one_log}
use Rattle.ira_event.proofs.laws.no_text_is_two_logs.Goals as goal

pub returns : goal.returns
returns c = one_log
