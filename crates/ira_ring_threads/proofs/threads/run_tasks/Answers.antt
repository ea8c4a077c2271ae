use Rattle.std.proofs.Common.{List, subst}
use Rattle.ira_ring_threads.specs.TaskPromise.{TaskPromise}
use Rattle.ira_ring_threads.specs.FinishedNode.{KeepPromises}
use Rattle.ira_ring_threads.proofs.FinishedNodes.{finished_on_places}
use Rattle.ira_ring_threads.proofs.threads.run_tasks.Goals as goal

pub returns-clause-ok : goal.returns-clause-ok
returns-clause-ok g c =
    let s = c.args.setup.now in
    let link = c.requires.tasks.0 in
    let finished_nodes = c.join_all-finished_nodes.result.0.items in
    let P : List TaskPromise → Type 0 = λ promises. KeepPromises promises finished_nodes in
    let finished = subst P (c.start_all-started_nodes.ensures.promises c.if-not-all_started.false)
    (c.join_all-finished_nodes.ensures c.if-not-all.false) in
    (link, finished_on_places s s.cap 0 s.nodes link link c.args.tasks.items finished_nodes c.requires.tasks.1 finished)
