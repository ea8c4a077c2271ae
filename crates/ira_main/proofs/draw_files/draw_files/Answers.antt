use Rattle.std.proofs.Common.{inl, inr, rules}
use Rattle.ira_main.proofs.FilesRead.{gives_weaker}
use Rattle.ira_main.proofs.draw_files.draw_files.Goals as goal

pub returns-in_default : goal.returns-in_default
returns-in_default g c = inl (rw c.in_default.is at c.draw_command.ensures, search rules)

pub returns : goal.returns
returns g c =
    let asked = rw c.in-Some.is at c.draw_command.ensures in
    gives_weaker c.answer_files.result (λ reply is. (c.in-Some.command, asked, is)) (λ fault is. inr is)
    (rw (c.asking-inputs.ensures, c.question_of-question.ensures) at c.answer_files.ensures)
