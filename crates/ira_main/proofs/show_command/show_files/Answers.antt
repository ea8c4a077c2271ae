use Rattle.std.proofs.Common.{inl, inr}
use Rattle.ira_main.proofs.FilesRead.{gives_weaker}
use Rattle.ira_main.proofs.show_command.show_files.Goals as goal

pub returns-in-Err : goal.returns-in-Err
returns-in-Err g c = inl (rw c.in-Err.is at c.in_ok-places.ensures)

pub returns : goal.returns
returns g c =
    let asked = rw c.deref.ensures.value at c.show_command.ensures in
    gives_weaker c.answer_files.result (λ reply is. (_, rw c.in-Ok.is at c.in_ok-places.ensures, _, asked, is)) (λ fault is. inr is)
    (rw (c.asking-inputs.ensures, c.question_of.ensures) at c.answer_files.ensures)
