use Rattle.std.proofs.Common.{drop}
use Rattle.std.specs.List.{flat_map}
use Rattle.ira_event.proofs.Writing.{HasWritten}
use Rattle.ira_pred.specs.QuestionText.{case_text}
use Rattle.ira_pred.proofs.question_writer.write_cases.Given as goal

abbrev pub invariant-loop-case : goal.invariant-loop-case
invariant-loop-case g l =
    HasWritten (flat_map case_text l.fn.cases) (flat_map case_text (drop l.case-index l.fn.cases))
    (g.W.Sink.state l.fn.sink) (g.W.Sink.state l.sink)
