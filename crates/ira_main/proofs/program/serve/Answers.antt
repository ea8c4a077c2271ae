use Rattle.ira_main.proofs.program.serve.Goals as goal

pub returns-clause-served : goal.returns-clause-served
returns-clause-served g c = (
  c.execute-outcome.result,
  _,
  c.execute-outcome.ensures.executed,
  c.tell_unread.ensures,
  c.report_outcome.ensures.number,
  c.bytes.result.now,
  rw c.bytes.ensures c.told_why-why.ensures,
  c.report_outcome.ensures.reported,
)
