use Rattle.std.proofs.Common.{rules, sym}
use Rattle.ira_cert.proofs.CaseQueues.{queues_if_found}
use Rattle.ira_cert.proofs.plain.case_queues.Goals as goal

pub returns-clause-queues : goal.returns-clause-queues
returns-clause-queues g c =
    queues_if_found c.args.logs.now c.args.case.now _ (λ n positions found. search rules) c.map_conjuncts.result (λ all.
    all.items) c.size.result c.requires (sym c.size.ensures.value)
    c.map_conjuncts.ensures.count c.map_conjuncts.ensures.found
