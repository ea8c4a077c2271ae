use Rattle.ira_web.proofs.commands.answer_all.Goals as goal

pub returns : goal.returns
returns g c = (
  c.in-Some.question,
  c.in-Some.certificate,
  c.in-Some.logs.now,
  rw c.widest_command.ensures at c.in-Some.ensures,
  c.in_ok-answer_overview.ensures,
)
