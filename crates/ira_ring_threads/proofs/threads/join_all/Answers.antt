use Rattle.std.proofs.Common.{rules, ◌≡◌, ◌∙◌, ◌++◌, ◌∷◌, [], List, length, append_assoc, refl, ap, sym, subst, arith}
use Rattle.std.specs.VecDeque.{deque_len}
use Rattle.std.proofs.lemmas.List.{append-nil, nil_from_length}
use Rattle.ira_ring_threads.specs.TaskPromise.{TaskPromise}
use Rattle.ira_ring_threads.specs.FinishedNode.{FinishedNode, KeepsPromise, KeepPromises}
use Rattle.ira_ring_threads.proofs.FinishedNodes.{finished_more}
use Rattle.ira_ring_threads.proofs.threads.join_all.Goals as goal

pub loop-started_node-init : goal.loop-started_node-init
loop-started_node-init g c =
    let none = c.requires.room.0 in
    record {
      finished = λ _. ([], refl, subst (KeepPromises []) (sym none) tt);
      count = omega (arith, c.args.finished_nodes.ok.0, ap length none);
      room = c.requires.room.1;
    }

pub loop-started_node-preserved-in-Ok : goal.loop-started_node-preserved-in-Ok
loop-started_node-preserved-in-Ok g c =
    let was = c.loop-started_node.invariant in
    let started_node = c.in-Some.started_node in
    let others = c.pop_front.new.self.items in
    let next : c.loop-started_node.started_nodes.items ≡ started_node ∷ others = c.in-Some.ensures.items in
    let kept : KeepsPromise started_node c.in-Ok.finished =
    subst (λ (promise : TaskPromise). KeepsPromise promise c.in-Ok.finished) c.started_node.view_is c.in-Ok.ensures
    in
    let longer = c.push_back_reserved.ensures in
    record {
      finished = λ all.
          let past = was.finished all in
          let P : List FinishedNode → Type 0 = λ ds. KeepPromises (past.0 ++ started_node ∷ []) ds in (
            past.0 ++ started_node ∷ [],
            append_assoc past.0 (started_node ∷ []) others ∙ ap (λ ds. past.0 ++ ds) (sym next) ∙ past.1,
            subst P (sym longer.items)
                (finished_more past.0 c.loop-started_node.finished_nodes.items started_node c.in-Ok.finished past.2
                kept),
          );
      count = omega (arith, was.count, longer.len, c.in-Some.ensures.cases);
      room = omega (arith, was.room, longer.capacity);
    }

pub returns : goal.returns
returns g c all =
    let past = c.loop-started_node.invariant.finished all in
    let none : deque_len c.loop-started_node.started_nodes ≡ 0 = search rules in
    let nil : c.loop-started_node.started_nodes.items ≡ [] =
    nil_from_length c.loop-started_node.started_nodes.items (sym c.loop-started_node.started_nodes.ok.0 ∙ none) in
    let whole : past.0 ≡ c.args.started_nodes.items =
    sym (append-nil past.0) ∙ ap (λ ds. past.0 ++ ds) (sym nil) ∙ past.1 in
    let P : List TaskPromise → Type 0 = λ ds. KeepPromises ds c.loop-started_node.finished_nodes.items in
    subst P whole past.2
