use Rattle.std.proofs.Common.{rules, ◌≡◌, ◌++◌, ◌∙◌, [], ℕ, map, length, ap, sym, subst, arith}
use Rattle.std.specs.VecDeque.{deque_len}
use Rattle.std.proofs.lemmas.List.{append-nil, nil_from_length}
use Rattle.ira_ring_threads.specs.TaskPromise.{promise_of}
use Rattle.ira_ring_threads.specs.NodeTask.{AreTasksOfPlaces}
use Rattle.ira_ring_threads.proofs.NodeTasks.{tasks_count}
use Rattle.ira_ring_threads.proofs.threads.start_all.Goals as goal

pub loop-task-init : goal.loop-task-init
loop-task-init g c =
    let s = c.args.setup.now in
    let none : deque_len c.args.started_nodes ≡ 0 = c.args.started_nodes.ok.0 ∙ ap length c.requires.room.0 in
    let link = c.requires.tasks.0 in
    record {
      promises = ap (λ ds. ds ++ map (promise_of s) c.args.tasks.items) c.requires.room.0;
      seated = (
        link,
        link,
        subst (λ (k : ℕ). AreTasksOfPlaces s.cap k link c.args.tasks.items s.nodes link) (sym none)
            c.requires.tasks.1,
      );
      count = omega (
        arith,
        none,
        c.args.tasks.ok.0,
        tasks_count s.cap 0 s.nodes link link c.args.tasks.items c.requires.tasks.1,
      );
      room = c.requires.room.1;
    }

pub returns-clause-promises : goal.returns-clause-promises
returns-clause-promises g c _ =
    let none : deque_len c.loop-task.tasks ≡ 0 = search rules in
    let nil : c.loop-task.tasks.items ≡ [] =
    nil_from_length c.loop-task.tasks.items (sym c.loop-task.tasks.ok.0 ∙ none) in
    sym (append-nil c.loop-task.started_nodes.items)
    ∙ ap (λ ss. c.loop-task.started_nodes.items ++ map (promise_of c.args.setup.now) ss) (sym nil)
    ∙ c.loop-task.invariant.promises
