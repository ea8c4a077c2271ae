use Rattle.ira_cert.proofs.QueueHeads.{none_left}
use Rattle.ira_cert.proofs.queues.is_spent.Goals as goal

pub returns : goal.returns
returns g c = none_left c.args.queues.now c.args.place c.in-Some.left.now c.front.result c.is_none.result
    c.in-Some.ensures c.front.ensures.value c.is_none.ensures
