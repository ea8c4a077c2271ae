use Rattle.std.proofs.Common.{◌≡◌, ◌∷◌, None, inr, true, false, sym, ap, ◌∙◌, arith, length, length-append, subst}
use Rattle.std.specs.List.{list_all}
use Rattle.std.specs.Vec.Iter.{into_iter_items}
use Rattle.ira_event.proofs.Gathering.{no-fault}
use Rattle.ira_ring_setup.specs.Collector.{AreTaken, HasNoEnd}
use Rattle.ira_ring_setup.specs.NodeEnd.{is_stopped}
use Rattle.ira_ring_setup.specs.Run.{Run, IsRun}
use Rattle.ira_ring_setup.proofs.Collecting.{parts_of, none-by, parts-more, parts-whole, missing-after, each-stopped}
use Rattle.ira_ring_setup.proofs.Collecting.{run-has-end, parts-are-logs, run-of-parts, answers-no-end, answers-run}
use Rattle.ira_ring_setup.proofs.collector.Collector.finish.Goals as goal

pub returns-in_default-clause-err : goal.returns-in_default-clause-err
returns-in_default-clause-err g c =
    let others = into_iter_items c.next.new.self in
    let none = none-by c.in-Some.part c.in_default.not-Some in
    let rest : into_iter_items c.loop-part.part-iterator ≡ None ∷ others =
    c.in-Some.ensures.steps.0 ∙ ap (λ part. part ∷ others) none in
    answers-no-end c.args.self
    (missing-after c.args.self (parts_of c.loop-part.logs.items c.loop-part.ends.items)
    (into_iter_items c.loop-part.part-iterator) others rest c.loop-part.invariant.parts)

pub loop-part-preserved : goal.loop-part-preserved
loop-part-preserved g c =
    let others = into_iter_items c.next.new.self in
    let steps = c.in-Some.ensures.steps in
    let rest : into_iter_items c.loop-part.part-iterator ≡ c.in-Some.part ∷ others = steps.0 in
    record {
      may_go_on = tt;
      ends = tt;
      logs_room = omega (arith, steps.1);
      ends_room = omega (arith, steps.1);
      left = omega (arith, ap length rest, steps.1);
      same = omega (
        arith,
        simp length-append at (ap length c.push_reserved.ensures.items),
        simp length-append at (ap length c.push_reserved-in-loop-part.ensures.items),
      );
      parts = parts-more c.loop-part.logs.items c.push_reserved.new.self.items c.loop-part.ends.items
          c.push_reserved-in-loop-part.new.self.items c.in-Some-part.log c.in-Some-part.end
          (into_iter_items c.loop-part.part-iterator) others c.args.self c.loop-part.invariant.same
          c.push_reserved.ensures.items c.push_reserved-in-loop-part.ensures.items (rest
          ∙ ap (λ part. part ∷ others) c.in-Some-part.is) c.loop-part.invariant.parts;
    }

pub returns-then-all_stopped-clause-err : goal.returns-then-all_stopped-clause-err
returns-then-all_stopped-clause-err g c =
    let logs = c.loop-part.logs.items in
    let ends = c.loop-part.ends.items in
    let done = c.in-None.ensures.steps.0 in
    let parts = parts-whole logs ends (into_iter_items c.loop-part.part-iterator) c.args.self (omega arith)
    c.loop-part.invariant.parts in
    let all : list_all is_stopped ends ≡ true =
    ap (λ xs. list_all is_stopped xs) (sym c.deref.ensures.value) ∙ sym c.all_stopped.ensures
    ∙ c.if-all_stopped.true in
    let none : HasNoEnd c.args.self = rw parts (inr (each-stopped logs ends all)) in
    answers-no-end c.args.self none

pub of_parts-requires : goal.of_parts-requires
of_parts-requires g c =
    let gathered = (c.gather.ensures.ok c.in-Ok.logs).0 c.in-Ok.is in
    record { logs = gathered.1; ends = sym c.loop-part.invariant.same ∙ ap length (sym gathered.0) }

pub unreachable-requires : goal.unreachable-requires
unreachable-requires g c =
    let logs = c.loop-part.logs.items in
    let ends = c.loop-part.ends.items in
    let done = c.in-None.ensures.steps.0 in
    let parts = parts-whole logs ends (into_iter_items c.loop-part.part-iterator) c.args.self (omega arith)
    c.loop-part.invariant.parts in
    let taken : AreTaken c.self.inside.nodes c.args.self =
    subst (AreTaken c.self.inside.nodes) c.self.view_is c.self.invariant.0 in
    no-fault logs c.in-Err.field-0
    (parts-are-logs c.self.inside.nodes c.args.self logs ends c.loop-part.invariant.same parts taken)
    ((c.gather.ensures.err c.in-Err.field-0).0 c.in-Err.is)

pub returns-clause-ok : goal.returns-clause-ok
returns-clause-ok g c =
    let ends = c.loop-part.ends.items in
    let done = c.in-None.ensures.steps.0 in
    let parts = parts-whole c.loop-part.logs.items ends (into_iter_items c.loop-part.part-iterator) c.args.self
    (omega arith) c.loop-part.invariant.parts in
    let gathered = (c.gather.ensures.ok c.in-Ok.logs).0 c.in-Ok.is in
    rw c.of_parts.ensures (run-of-parts c.args.self c.in-Ok.logs ends (ap length gathered.0
    ∙ c.loop-part.invariant.same) (parts ∙ ap (λ logs. parts_of logs ends) (sym gathered.0)))

pub returns-clause-err : goal.returns-clause-err
returns-clause-err g c =
    let logs = c.loop-part.logs.items in
    let ends = c.loop-part.ends.items in
    let done = c.in-None.ensures.steps.0 in
    let parts = parts-whole logs ends (into_iter_items c.loop-part.part-iterator) c.args.self (omega arith)
    c.loop-part.invariant.parts in
    let goes_on : list_all is_stopped ends ≡ false =
    ap (λ xs. list_all is_stopped xs) (sym c.deref.ensures.value) ∙ sym c.all_stopped.ensures
    ∙ c.if-all_stopped.false in
    let some : ¬ (HasNoEnd c.args.self) = rw parts (run-has-end logs ends c.loop-part.invariant.same goes_on) in
    answers-run c.of_parts.result c.args.self some

pub returns-clause-valid : goal.returns-clause-valid
returns-clause-valid g c =
    let gathered = (c.gather.ensures.ok c.in-Ok.logs).0 c.in-Ok.is in
    let P : Run → Type 0 = λ run. IsRun run in
    subst P (sym c.of_parts.ensures) (record {
      logs = gathered.1;
      ends = sym c.loop-part.invariant.same ∙ ap length (sym gathered.0);
    })
