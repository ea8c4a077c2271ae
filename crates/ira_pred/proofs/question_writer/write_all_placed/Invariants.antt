use Rattle.std.proofs.Common.{drop}
use Rattle.std.specs.List.{flat_map}
use Rattle.ira_event.proofs.Writing.{HasWritten}
use Rattle.ira_pred.specs.PlacedClause.{conjuncts}
use Rattle.ira_pred.specs.QuestionText.{conjunct_text}
use Rattle.ira_pred.proofs.question_writer.write_all_placed.Given as goal

abbrev pub invariant-loop-placed : goal.invariant-loop-placed
invariant-loop-placed g l =
    HasWritten (flat_map conjunct_text (conjuncts l.fn.clauses))
    (flat_map conjunct_text (conjuncts (drop l.placed-index l.fn.clauses))) (g.W.Sink.state l.fn.sink)
    (g.W.Sink.state l.sink)
