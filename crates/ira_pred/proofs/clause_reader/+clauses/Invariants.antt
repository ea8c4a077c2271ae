use Rattle.std.proofs.Common.{◌+◌, ◌*◌}
use Rattle.ira_pred.proofs.clause_reader.+clauses.Given as goal

abbrev pub decreases-scan_clause : goal.decreases-scan_clause
decreases-scan_clause g l = 2 * l.depth

abbrev pub decreases-scan_joined : goal.decreases-scan_joined
decreases-scan_joined g l = 2 * l.depth + 1

abbrev pub decreases-scan_negated : goal.decreases-scan_negated
decreases-scan_negated g l = 2 * l.depth + 1
