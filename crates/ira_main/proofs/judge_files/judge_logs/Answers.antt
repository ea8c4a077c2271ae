use Rattle.std.proofs.Common.{inl, inr}
use Rattle.ira_main.proofs.FilesRead.{gives_weaker}
use Rattle.ira_main.proofs.judge_files.judge_logs.Goals as goal

pub returns-in-Err : goal.returns-in-Err
returns-in-Err g c = inl (rw c.in-Err.is at c.in_ok-places.ensures)

pub returns : goal.returns
returns g c =
    let expected = rw c.deref.ensures.value at c.expected_by-expected.ensures in
    gives_weaker c.answer_files.result
    (λ reply is. (_, rw c.in-Ok.is at c.in_ok-places.ensures, _, expected, is)) (λ fault is. inr is)
    (rw (c.asking.ensures, c.asked_of-command.ensures) at c.answer_files.ensures)
