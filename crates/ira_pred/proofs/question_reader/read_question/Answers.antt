use Rattle.std.proofs.Common.{◌≡◌, arith}
use Rattle.std.proofs.lemmas.Result.{err_from_is_err_and}
use Rattle.ira_pred.proofs.QuestionTexts.{one_text}
use Rattle.ira_pred.proofs.QuestionsRead.{exactly_ok, exactly_err, asked_of, question_read, question_not_read}
use Rattle.ira_pred.proofs.QuestionsRead.{head_not_read}
use Rattle.ira_pred.proofs.question_reader.read_question.Goals as goal

pub returns-in_default-clause-ok : goal.returns-in_default-clause-ok
returns-in_default-clause-ok g c =
    exactly_ok _ c.args.text.now
    (head_not_read c.args.text.now (omega (arith, c.if-text-gt-MAX_TEXT.false)) c.in_default.ensures)

pub returns-in_default-clause-err : goal.returns-in_default-clause-err
returns-in_default-clause-err g c =
    exactly_err _ c.args.text.now
    (head_not_read c.args.text.now (omega (arith, c.if-text-gt-MAX_TEXT.false)) c.in_default.ensures)

pub returns-in_err-cases-clause-ok : goal.returns-in_err-cases-clause-ok
returns-in_err-cases-clause-ok g c =
    let p = err_from_is_err_and c.from_residual.result c.from_residual.ensures.1 in
    let same : p.0 ≡ c.in_err-cases.field-0.0 = p.2 in
    rw (p.1, same) (exactly_ok _ c.args.text.now
    (question_not_read c.args.text.now c.in-Some.head.nodes c.get.result c.in-Some.head.rest.now c.new.result
    c.in_err-cases.field-0.0 (omega (arith, c.if-text-gt-MAX_TEXT.false)) c.in-Some.ensures c.get.ensures.value
    c.new.ensures c.in_err-cases.ensures))

pub returns-in_err-cases-clause-err : goal.returns-in_err-cases-clause-err
returns-in_err-cases-clause-err g c =
    let p = err_from_is_err_and c.from_residual.result c.from_residual.ensures.1 in
    let same : p.0 ≡ c.in_err-cases.field-0.0 = p.2 in
    rw (p.1, same) (exactly_err _ c.args.text.now
    (question_not_read c.args.text.now c.in-Some.head.nodes c.get.result c.in-Some.head.rest.now c.new.result
    c.in_err-cases.field-0.0 (omega (arith, c.if-text-gt-MAX_TEXT.false)) c.in-Some.ensures c.get.ensures.value
    c.new.ensures c.in_err-cases.ensures))

pub of_parts-requires-clause-short : goal.of_parts-requires-clause-short
of_parts-requires-clause-short g c =
    let read = question_read c.args.text.now c.in-Some.head.nodes c.get.result c.in-Some.head.rest.now c.new.result
    c.in_ok-cases.cases.items (omega (arith, c.if-text-gt-MAX_TEXT.false)) c.in-Some.ensures c.get.ensures.value
    c.new.ensures c.in_ok-cases.ensures in
    ((one_text c.args.text.now (asked_of c.in-Some.head.nodes c.in_ok-cases.cases.items)).0 read).1

pub returns-clause-ok : goal.returns-clause-ok
returns-clause-ok g c =
    let read = question_read c.args.text.now c.in-Some.head.nodes c.get.result c.in-Some.head.rest.now c.new.result
    c.in_ok-cases.cases.items (omega (arith, c.if-text-gt-MAX_TEXT.false)) c.in-Some.ensures c.get.ensures.value
    c.new.ensures c.in_ok-cases.ensures in
    rw c.of_parts.ensures (exactly_ok _ c.args.text.now read)

pub returns-clause-err : goal.returns-clause-err
returns-clause-err g c =
    let read = question_read c.args.text.now c.in-Some.head.nodes c.get.result c.in-Some.head.rest.now c.new.result
    c.in_ok-cases.cases.items (omega (arith, c.if-text-gt-MAX_TEXT.false)) c.in-Some.ensures c.get.ensures.value
    c.new.ensures c.in_ok-cases.ensures in
    rw c.of_parts.ensures (exactly_err _ c.args.text.now read)
