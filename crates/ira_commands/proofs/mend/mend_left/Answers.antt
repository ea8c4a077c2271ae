use Rattle.std.proofs.Common.{◌∙◌, ap, length, sym}
use Rattle.std.proofs.lemmas.Slice.Zip.{AllZip-long}
use Rattle.ira_mend.proofs.RecordedTexts.{left_length}
use Rattle.ira_mend.specs.RecordedLogs.{SaysLost}
use Rattle.ira_commands.proofs.Served.{if_ok}
use Rattle.ira_commands.specs.Mend.MendsTexts.{differ, mended, no_ring}
use Rattle.ira_commands.proofs.mend.mend_left.Goals as goal

pub of_answer-requires : goal.of_answer-requires
of_answer-requires g c = (rw c.in-Err-No.field-0-is at (c.in-Err-No.ensures c.requires.0 c.requires.1)).1

pub returns-in-Err-No : goal.returns-in-Err-No
returns-in-Err-No g c = λ texts recorded.
    let why = rw c.in-Err-No.field-0-is at (c.in-Err-No.ensures texts recorded) in
    if_ok c.of_answer.result (λ reply told. no_ring c.in-Err-No.reason why.0 told) c.of_answer.ensures

pub tell_mended-requires-clause-lost : goal.tell_mended-requires-clause-lost
tell_mended-requires-clause-lost g c =
    let texts = c.requires.0 in
    let left = (c.in-Ok.ensures texts c.requires.1).0 in
    ap length c.deref.ensures.value
    ∙ AllZip-long SaysLost texts c.in_ok-lost.lost.items (c.in_ok-lost.ensures texts c.requires.1)
    ∙ sym (left_length 0 _ _ texts c.in-Ok.logs left.each)

pub returns-in-Ok-mend : goal.returns-in-Ok-mend
returns-in-Ok-mend g c = λ texts recorded.
    let ring = c.in-Ok.ensures texts recorded in
    if_ok c.tell_mended.result (λ reply told. mended c.in-Ok.logs c.in-Ok-mend.mended c.in_ok-lost.lost.items ring.0 ring.1
    (c.in_ok-lost.ensures texts recorded) c.in-Ok-mend.ensures told)
    (rw c.deref.ensures.value at c.tell_mended.ensures)

pub returns-in-Err-Match : goal.returns-in-Err-Match
returns-in-Err-Match g c = λ texts recorded.
    let ring = c.in-Ok.ensures texts recorded in
    let why = rw c.in-Err-Match.field-0-is at c.in-Err-Match.ensures in
    if_ok c.of_answer-in-Err-Match.result (λ reply told. differ c.in-Ok.logs c.in-Err-Match.fault ring.0 ring.1 why told)
    c.of_answer-in-Err-Match.ensures
