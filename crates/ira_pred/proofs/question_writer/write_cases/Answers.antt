use Rattle.std.proofs.Common.{◌+◌, drop, arith}
use Rattle.std.specs.List.{flat_map}
use Rattle.std.proofs.lemmas.Result.{err_from_is_err_and}
use Rattle.ira_event.proofs.Writing.{HasWritten-more, HasWritten-stops}
use Rattle.ira_pred.specs.QuestionText.{case_text}
use Rattle.ira_event.proofs.Rest.{next_text}
use Rattle.ira_pred.proofs.question_writer.write_cases.Goals as goal

pub loop-case-preserved : goal.loop-case-preserved
loop-case-preserved g c =
    let xs = c.args.cases.now in
    let i = c.loop-case.case-index in
    let x = c.case-item.result in
    let next = next_text case_text xs i x x (omega arith) c.case-item.is in
    HasWritten-more (flat_map case_text xs) (flat_map case_text (drop i xs)) (case_text x)
    (flat_map case_text (drop (i + 1) xs)) _ _ _ c.loop-case.invariant next c.in_ok-write_case.ensures

pub returns-in_err-write_case : goal.returns-in_err-write_case
returns-in_err-write_case g c =
    let stop = err_from_is_err_and c.from_residual.result c.from_residual.ensures.1 in
    let xs = c.args.cases.now in
    let i = c.loop-case.case-index in
    let x = c.case-item.result in
    let next = next_text case_text xs i x x (omega arith) c.case-item.is in
    HasWritten-stops _ _ stop.1 (flat_map case_text xs) (flat_map case_text (drop i xs)) (case_text x)
    (flat_map case_text (drop (i + 1) xs)) _ _ _ c.loop-case.invariant next c.in_err-write_case.ensures
