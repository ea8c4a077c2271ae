use Rattle.std.proofs.Common.{rules}
use Rattle.ira_cert.proofs.CaseQueues.{queues_if_found}
use Rattle.ira_cert.proofs.profiled.profiled_queues.Goals as goal

pub returns-clause-queues : goal.returns-clause-queues
returns-clause-queues g c =
    queues_if_found c.args.profiles.now c.args.case.now _ (λ n positions found.
    search rules) c.map_conjuncts.result (λ all. all.items) c.args.nodes c.requires.places c.requires.nodes
    c.map_conjuncts.ensures.count c.map_conjuncts.ensures.found
