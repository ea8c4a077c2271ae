use Rattle.std.proofs.Common.{◌+◌, ◌*◌}
use Rattle.ira_pred.specs.Clause.{formula}
use Rattle.ira_pred.proofs.Sizes.{size}
use Rattle.ira_pred.proofs.question_writer.+clauses.Given as goal

abbrev pub decreases-write_clause : goal.decreases-write_clause
decreases-write_clause g l = 2 * size (formula l.clause.now)

abbrev pub decreases-write_joined : goal.decreases-write_joined
decreases-write_joined g l = 2 * (size (formula l.left.now) + size (formula l.right.now)) + 1

abbrev pub decreases-write_negated : goal.decreases-write_negated
decreases-write_negated g l = 2 * size (formula l.clause.now) + 1
