use Rattle.std.proofs.Common.{length}
use Rattle.ira_pred.specs.PlacedClause.{conjuncts}
use Rattle.ira_pred.proofs.CaseReading.{HasRead}
use Rattle.ira_pred.proofs.question_reader.read_cases.Given as goal

abbrev pub invariant-loop-asked : goal.invariant-loop-asked
invariant-loop-asked g l = HasRead l.fn.nodes l.fn.lines.rest l.cases.items (conjuncts l.asked.items) l.lines

abbrev pub decreases-loop-asked : goal.decreases-loop-asked
decreases-loop-asked g l = length l.lines.rest
