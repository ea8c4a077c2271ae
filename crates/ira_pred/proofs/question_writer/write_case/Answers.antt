use Rattle.std.proofs.Common.{refl, ap}
use Rattle.std.specs.List.{flat_map}
use Rattle.std.specs.Prelude.{codes}
use Rattle.std.proofs.lemmas.Result.{err_from_is_err_and}
use Rattle.ira_event.proofs.Writing.{HasWritten-start, HasWritten-more, HasWritten-stops, HasWritten-last}
use Rattle.ira_pred.specs.PlacedClause.{conjuncts}
use Rattle.ira_pred.specs.QuestionText.{conjunct_text, case_text}
use Rattle.ira_pred.proofs.question_writer.write_case.Goals as goal

pub returns-in_err-write_bytes : goal.returns-in_err-write_bytes
returns-in_err-write_bytes g c =
    let stop = err_from_is_err_and c.from_residual.result c.from_residual.ensures.1 in
    let text = case_text c.args.case.now in
    let lines = flat_map conjunct_text c.args.case.now in
    HasWritten-stops _ _ stop.1 text text (codes "case\n") lines _ _ _ (HasWritten-start text _) refl
    c.in_err-write_bytes.ensures

pub returns : goal.returns
returns g c =
    let text = case_text c.args.case.now in
    let lines = flat_map conjunct_text c.args.case.now in
    HasWritten-last _ text lines (flat_map conjunct_text (conjuncts c.clauses.result.now)) _ _ _
    (HasWritten-more text text (codes "case\n") lines _ _ _ (HasWritten-start text _) refl c.in_ok-write_bytes.ensures)
    (ap (λ x. flat_map conjunct_text x) c.clauses.ensures) c.write_all_placed.ensures
