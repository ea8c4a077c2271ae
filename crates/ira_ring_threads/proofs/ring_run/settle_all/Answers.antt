use Rattle.std.proofs.Common.{rules, ◌≡◌, ◌∙◌, [], length, sym}
use Rattle.std.specs.VecDeque.{deque_len}
use Rattle.std.proofs.lemmas.List.{nil_from_length}
use Rattle.ira_ring_threads.proofs.SettledLinks.{first_held, settling_first, settling_more, settling_takes, first_takes}
use Rattle.ira_ring_threads.proofs.SettledLinks.{settled_round, settled_taken, settled_run, finishes}
use Rattle.ira_ring_threads.proofs.Recordings.{not_all_stopped}
use Rattle.ira_ring_threads.proofs.ring_run.settle_all.Goals as goal

pub unreachable-requires-in_default-take : goal.unreachable-requires-in_default-take
unreachable-requires-in_default-take g c =
    let f = c.in_default-take.field-0 in
    first_takes (length c.args.collector) c.args.finished_nodes.items c.pop_front.new.self.items _ c.args.collector f
    (first_held _ _ _ _ c.in-Some.ensures.items c.first.view_is) c.requires.ring c.requires.none
    ((c.take.ensures.err f).0 c.in_default-take.is)

pub loop-finished-init : goal.loop-finished-init
loop-finished-init g c = record {
  number = c.in-Ok.ensures.ok.number;
  settling = settling_first (length c.args.collector) c.args.finished_nodes.items c.pop_front.new.self.items _
      c.args.collector c.take.new.self (first_held _ _ _ _ c.in-Some.ensures.items c.first.view_is) c.requires.ring
      c.requires.none c.in-Ok.ensures.ok;
}

pub unreachable-requires-in_default-take-2 : goal.unreachable-requires-in_default-take-2
unreachable-requires-in_default-take-2 g c =
    let f = c.in_default-take-2.field-0 in
    settling_takes (length c.args.collector) c.args.finished_nodes.items c.loop-finished.finished_nodes.items
    c.pop_front-in-loop-finished.new.self.items _ c.first.inside.input c.loop-finished.last
    c.loop-finished.collector f (first_held _ _ _ _ c.in-Some-pop_front.ensures.items c.finished.view_is)
    c.loop-finished.invariant.number c.loop-finished.invariant.settling
    ((c.take-in-Some-pop_front.ensures.err f).0 c.in_default-take-2.is)

pub loop-finished-preserved : goal.loop-finished-preserved
loop-finished-preserved g c =
    let kept = c.in-Ok-take.ensures.ok in
    record {
      number = kept.number ∙ c.loop-finished.invariant.number;
      settling = settling_more (length c.args.collector) c.args.finished_nodes.items
          c.loop-finished.finished_nodes.items c.pop_front-in-loop-finished.new.self.items _ c.first.inside.input
          c.loop-finished.last c.loop-finished.collector c.take-in-Some-pop_front.new.self
          (first_held _ _ _ _ c.in-Some-pop_front.ensures.items c.finished.view_is) c.loop-finished.invariant.settling
          c.settle.ensures.prefix kept;
    }

pub unreachable-requires-in_default-finish : goal.unreachable-requires-in_default-finish
unreachable-requires-in_default-finish g c =
    let finished_nodes = c.args.finished_nodes.items in
    let parts = c.loop-finished.collector in
    let settling = c.loop-finished.invariant.settling in
    let none : deque_len c.loop-finished.finished_nodes ≡ 0 = search rules in
    let nil : c.loop-finished.finished_nodes.items ≡ [] =
    nil_from_length c.loop-finished.finished_nodes.items (sym c.loop-finished.finished_nodes.ok.0 ∙ none) in
    let taken = settled_taken (length c.args.collector) finished_nodes c.loop-finished.finished_nodes.items
    c.first.inside.input c.loop-finished.last parts nil settling in
    let round = settled_round (length c.args.collector) finished_nodes c.loop-finished.finished_nodes.items
    c.first.inside.input c.loop-finished.last parts nil settling c.settle-2.ensures.prefix in
    let ring = c.requires.ring in
    let f = c.in_default-finish.field-0 in
    finishes finished_nodes parts taken (not_all_stopped ring.0 finished_nodes ring.3 ring.2 round)
    ((c.finish.ensures.err f).0 c.in_default-finish.is).0

pub returns : goal.returns
returns g c =
    let finished_nodes = c.args.finished_nodes.items in
    let parts = c.loop-finished.collector in
    let settling = c.loop-finished.invariant.settling in
    let none : deque_len c.loop-finished.finished_nodes ≡ 0 = search rules in
    let nil : c.loop-finished.finished_nodes.items ≡ [] =
    nil_from_length c.loop-finished.finished_nodes.items (sym c.loop-finished.finished_nodes.ok.0 ∙ none) in
    let taken = settled_taken (length c.args.collector) finished_nodes c.loop-finished.finished_nodes.items
    c.first.inside.input c.loop-finished.last parts nil settling in
    let run = settled_run finished_nodes c.in-Ok-finish.run' parts taken c.in-Ok-finish.ensures.ok in
    record {
      valid = c.in-Ok-finish.ensures.valid;
      logs = run.0;
      ends = run.1;
      passed = settled_round (length c.args.collector) finished_nodes c.loop-finished.finished_nodes.items
          c.first.inside.input c.loop-finished.last parts nil settling c.settle-2.ensures.prefix;
    }
