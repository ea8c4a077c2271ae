use Rattle.ira_pred.proofs.Depths.{clause_too_deep}
use Rattle.ira_pred.proofs.laws.texts_are_as_deep_as_clauses.Goals as goal

pub returns : goal.returns
returns c = clause_too_deep
