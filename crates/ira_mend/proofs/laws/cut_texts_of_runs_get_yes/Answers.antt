use Rattle.ira_mend.proofs.CutTexts.{cut_texts_are_of_logs, cut_texts_dont_differ, cut_texts_get_yes}
use Rattle.ira_mend.proofs.laws.cut_texts_of_runs_get_yes.Goals as goal

pub returns-clause-gathered : goal.returns-clause-gathered
returns-clause-gathered c = cut_texts_are_of_logs

pub returns-clause-alike : goal.returns-clause-alike
returns-clause-alike c = cut_texts_dont_differ

pub returns-clause-answer : goal.returns-clause-answer
returns-clause-answer c = cut_texts_get_yes
