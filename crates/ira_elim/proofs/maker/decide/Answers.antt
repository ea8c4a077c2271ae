use Rattle.std.proofs.Common.{◌≡◌, List, subst, sym}
use Rattle.ira_event.specs.Log.{Log}
use Rattle.ira_cert.specs.Queues.{AreQueues}
use Rattle.ira_elim.specs.Decided.{IsDecided}
use Rattle.ira_elim.proofs.maker.decide.Goals as goal

pub returns : goal.returns
returns g c =
    let case = c.args.case.now in
    let queues = c.in_ok-queues.ensures in
    let there = subst (λ (ls : List Log). AreQueues ls case c.in_ok-queues.queues.items) (sym c.requires.order)
    queues.queues in
    let decided = c.in_ok-decide_queues.ensures case queues.different there in
    c.of_decided.ensures c.args.logs.now case
    (subst (λ (ls : List Log). IsDecided (λ list steps. list.items ≡ steps) ls case c.in_ok-decide_queues.field-0)
    c.requires.order decided)
