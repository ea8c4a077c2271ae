use Rattle.std.proofs.Common.{codes, ◌++◌}
use Rattle.std.proofs.lemmas.Result.{err_from_is_err_and}
use Rattle.ira_event.proofs.Writing.{StopsIn-append, Takes-StopsIn, Takes-append, Wrote-then}
use Rattle.ira_pred.specs.Clause.{formula}
use Rattle.ira_pred.specs.QuestionText.{clause_text}
use Rattle.ira_pred.proofs.question_writer.+clauses.Goals as goal

pub write_joined-returns-in_err-write_bytes : goal.write_joined-returns-in_err-write_bytes
write_joined-returns-in_err-write_bytes g t c =
    let stop = err_from_is_err_and c.from_residual.result c.from_residual.ensures.1 in
    let left = clause_text (formula c.args.left.now) in
    let right = clause_text (formula c.args.right.now) in
    let word = c.args.word.now in
    rw stop.1 (StopsIn-append _ _ (codes "(" ++ left ++ word ++ right) (codes ")")
    (StopsIn-append _ _ (codes "(" ++ left ++ word) right
    (StopsIn-append _ _ (codes "(" ++ left) word
    (StopsIn-append _ _ (codes "(") left c.in_err-write_bytes.ensures))))

pub write_joined-returns-in_err-write_clause : goal.write_joined-returns-in_err-write_clause
write_joined-returns-in_err-write_clause g t c =
    let stop = err_from_is_err_and c.from_residual-in_err-write_clause.result
    c.from_residual-in_err-write_clause.ensures.1 in
    let left = clause_text (formula c.args.left.now) in
    let right = clause_text (formula c.args.right.now) in
    let word = c.args.word.now in
    rw stop.1 (StopsIn-append _ _ (codes "(" ++ left ++ word ++ right) (codes ")")
    (StopsIn-append _ _ (codes "(" ++ left ++ word) right
    (StopsIn-append _ _ (codes "(" ++ left) word
    (Takes-StopsIn _ _ _ (codes "(") left c.in_ok-write_bytes.ensures c.in_err-write_clause.ensures))))

pub write_joined-returns-in_err-write_bytes-2 : goal.write_joined-returns-in_err-write_bytes-2
write_joined-returns-in_err-write_bytes-2 g t c =
    let stop = err_from_is_err_and c.from_residual-in_err-write_bytes-2.result
    c.from_residual-in_err-write_bytes-2.ensures.1 in
    let left = clause_text (formula c.args.left.now) in
    let right = clause_text (formula c.args.right.now) in
    let word = c.args.word.now in
    let front = Takes-append _ _ _ (codes "(") left c.in_ok-write_bytes.ensures c.in_ok-write_clause.ensures in
    rw stop.1 (StopsIn-append _ _ (codes "(" ++ left ++ word ++ right) (codes ")")
    (StopsIn-append _ _ (codes "(" ++ left ++ word) right
    (Takes-StopsIn _ _ _ (codes "(" ++ left) word front c.in_err-write_bytes-2.ensures)))

pub write_joined-returns-in_err-write_clause-2 : goal.write_joined-returns-in_err-write_clause-2
write_joined-returns-in_err-write_clause-2 g t c =
    let stop = err_from_is_err_and c.from_residual-in_err-write_clause-2.result
    c.from_residual-in_err-write_clause-2.ensures.1 in
    let left = clause_text (formula c.args.left.now) in
    let right = clause_text (formula c.args.right.now) in
    let word = c.args.word.now in
    let front = Takes-append _ _ _ (codes "(") left c.in_ok-write_bytes.ensures c.in_ok-write_clause.ensures in
    let middle = Takes-append _ _ _ (codes "(" ++ left) word front c.in_ok-write_bytes-2.ensures in
    rw stop.1 (StopsIn-append _ _ (codes "(" ++ left ++ word ++ right) (codes ")")
    (Takes-StopsIn _ _ _ (codes "(" ++ left ++ word) right middle c.in_err-write_clause-2.ensures))

pub write_joined-returns : goal.write_joined-returns
write_joined-returns g t c =
    let left = clause_text (formula c.args.left.now) in
    let right = clause_text (formula c.args.right.now) in
    let word = c.args.word.now in
    let front = Takes-append _ _ _ (codes "(") left c.in_ok-write_bytes.ensures c.in_ok-write_clause.ensures in
    let middle = Takes-append _ _ _ (codes "(" ++ left) word front c.in_ok-write_bytes-2.ensures in
    let back = Takes-append _ _ _ (codes "(" ++ left ++ word) right middle c.in_ok-write_clause-2.ensures in
    Wrote-then c.write_bytes-3.result _ _ _ (codes "(" ++ left ++ word
    ++ right) (codes ")") back c.write_bytes-3.ensures

pub write_negated-returns-in_err-write_bytes : goal.write_negated-returns-in_err-write_bytes
write_negated-returns-in_err-write_bytes g t c =
    let stop = err_from_is_err_and c.from_residual.result c.from_residual.ensures.1 in
    let inner = clause_text (formula c.args.clause.now) in
    rw stop.1 (StopsIn-append _ _ (codes "(not " ++ inner) (codes ")")
    (StopsIn-append _ _ (codes "(not ") inner c.in_err-write_bytes.ensures))

pub write_negated-returns-in_err-write_clause : goal.write_negated-returns-in_err-write_clause
write_negated-returns-in_err-write_clause g t c =
    let stop = err_from_is_err_and c.from_residual-in_err-write_clause.result
    c.from_residual-in_err-write_clause.ensures.1 in
    let inner = clause_text (formula c.args.clause.now) in
    rw stop.1 (StopsIn-append _ _ (codes "(not " ++ inner) (codes ")")
    (Takes-StopsIn _ _ _ (codes "(not ") inner c.in_ok-write_bytes.ensures c.in_err-write_clause.ensures))

pub write_negated-returns : goal.write_negated-returns
write_negated-returns g t c =
    let inner = clause_text (formula c.args.clause.now) in
    let front = Takes-append _ _ _ (codes "(not ") inner c.in_ok-write_bytes.ensures c.in_ok-write_clause.ensures in
    Wrote-then c.write_bytes-2.result _ _ _ (codes "(not " ++ inner) (codes ")") front c.write_bytes-2.ensures
