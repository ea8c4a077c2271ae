use Rattle.std.proofs.Common.{◌+◌, drop, sym, ap, arith}
use Rattle.std.specs.List.{flat_map}
use Rattle.std.proofs.lemmas.Result.{err_from_is_err_and}
use Rattle.ira_event.proofs.Writing.{HasWritten-more, HasWritten-stops}
use Rattle.ira_pred.specs.PlacedClause.{conjunct, conjuncts}
use Rattle.ira_pred.specs.QuestionText.{conjunct_text}
use Rattle.ira_event.proofs.Rest.{drop-at}
use Rattle.ira_pred.proofs.question_writer.write_all_placed.Goals as goal

pub loop-placed-preserved : goal.loop-placed-preserved
loop-placed-preserved g c =
    let xs = c.args.clauses.now in
    let i = c.loop-placed.placed-index in
    let x = c.placed-item.result in
    let next = ap (λ ys. flat_map conjunct_text (conjuncts ys)) (sym (drop-at xs i x x (omega arith) c.placed-item.is))
    in
    HasWritten-more (flat_map conjunct_text (conjuncts xs)) (flat_map conjunct_text (conjuncts (drop i xs)))
    (conjunct_text (conjunct x)) (flat_map conjunct_text (conjuncts (drop (i + 1) xs))) _ _ _
    c.loop-placed.invariant next c.in_ok-write_placed.ensures

pub returns-in_err-write_placed : goal.returns-in_err-write_placed
returns-in_err-write_placed g c =
    let stop = err_from_is_err_and c.from_residual.result c.from_residual.ensures.1 in
    let xs = c.args.clauses.now in
    let i = c.loop-placed.placed-index in
    let x = c.placed-item.result in
    let next = ap (λ ys. flat_map conjunct_text (conjuncts ys)) (sym (drop-at xs i x x (omega arith) c.placed-item.is))
    in
    HasWritten-stops _ _ stop.1 (flat_map conjunct_text (conjuncts xs)) (flat_map conjunct_text (conjuncts (drop i xs)))
    (conjunct_text (conjunct x)) (flat_map conjunct_text (conjuncts (drop (i + 1) xs))) _ _ _
    c.loop-placed.invariant next c.in_err-write_placed.ensures
