use Rattle.std.proofs.Common.{refl}
use Rattle.ira_view_explain.proofs.StopHints.{debt_after}
use Rattle.ira_view_explain.proofs.stopped.owed_after.Goals as goal

pub returns-in-Ok-clause-call : goal.returns-in-Ok-clause-call
returns-in-Ok-clause-call c =
    debt_after c.args.nodes c.args.state c.args.event c.in-Ok.after c.in-Ok.after.owed
    ((c.step.ensures.ok c.in-Ok.after).0 c.in-Ok.is) refl
