use Rattle.std.proofs.Common.{List, inr, sym, subst, ap, length, arith}
use Rattle.ira_event.specs.Log.{Log}
use Rattle.ira_cert.specs.declared.verdict.Verdict.TheVariants.{Yes, No}
use Rattle.ira_cert.specs.Queues.{AreQueues}
use Rattle.ira_cert.specs.Verdict.{IsVerdict}
use Rattle.ira_cert.proofs.Exactly.{exactly}
use Rattle.ira_cert.proofs.plain.check_plain.Goals as goal

pub check_queues-requires : goal.check_queues-requires
check_queues-requires g c =
    omega (arith, c.in_ok-queues.ensures.count, ap (λ (logs : List Log). length logs) c.requires.order)

pub returns-clause-yes : goal.returns-clause-yes
returns-clause-yes g c =
    let case = c.args.case.now in let section = c.args.section.now in
    let queues = subst (λ (logs : List Log). AreQueues logs case c.in_ok-queues.queues.items) (sym c.requires.order)
    c.in_ok-queues.ensures.queues in
    let is = subst (λ (logs : List Log). IsVerdict logs case section c.check_queues.result) c.requires.order
    (c.check_queues.ensures case c.in_ok-queues.ensures.different queues) in
    inr (exactly c.args.logs.now case section c.check_queues.result Yes c.in_ok-queues.ensures.different is)

pub returns-clause-no : goal.returns-clause-no
returns-clause-no g c = λ f.
    let case = c.args.case.now in let section = c.args.section.now in
    let queues = subst (λ (logs : List Log). AreQueues logs case c.in_ok-queues.queues.items) (sym c.requires.order)
    c.in_ok-queues.ensures.queues in
    let is = subst (λ (logs : List Log). IsVerdict logs case section c.check_queues.result) c.requires.order
    (c.check_queues.ensures case c.in_ok-queues.ensures.different queues) in
    inr (exactly c.args.logs.now case section c.check_queues.result (No f) c.in_ok-queues.ensures.different is)
