use Rattle.std.proofs.Common.{◌≡◌, ◌+◌, ◌-◌, ◌∙◌, ◌∷◌, ◌++◌, [], Some, ap, arith, subst, sym}
use Rattle.std.specs.Prelude.{slice_get, slice_index}
use Rattle.ira_view_trail.specs.Right.{HasPicked, load_at}
use Rattle.ira_view_trail.proofs.Picked.{picked_skip, picked_take}
use Rattle.ira_view_trail.proofs.right.columns_at.Goals as goal

pub loop-done-preserved-then-not-has : goal.loop-done-preserved-then-not-has
loop-done-preserved-then-not-has g c =
    let back : c.loop-done.done ≡ c.loop-done.done + 1 - 1 = omega arith in
    let at : slice_get c.args.log.now.events c.loop-done.done ≡ Some c.event-event.result =
    ap (slice_get c.args.log.now.events) back ∙ c.event-event.ensures in
    picked_skip (load_at c.args.end) c.args.log.now.events c.args.row.now c.loop-done.done c.event-event.result
    c.loop-done.picked.items at c.loop-done.invariant c.has.result c.has.ensures c.if-not-has.true

pub loop-done-preserved : goal.loop-done-preserved
loop-done-preserved g c =
    let back : c.loop-done.done ≡ c.loop-done.done + 1 - 1 = omega arith in
    let at : slice_get c.args.log.now.events c.loop-done.done ≡ Some c.event-event.result =
    ap (slice_get c.args.log.now.events) back ∙ c.event-event.ensures in
    let pushed : c.push.new.self.items ≡ c.loop-done.picked.items ++ slice_index c.args.row.now c.loop-done.done ∷ [] =
    c.in_ok-push.ensures.items in
    subst (HasPicked (load_at c.args.end) c.args.log.now.events c.args.row.now (c.loop-done.done + 1)) (sym pushed)
    (picked_take (load_at c.args.end) c.args.log.now.events c.args.row.now c.loop-done.done c.event-event.result
    c.loop-done.picked.items at c.loop-done.invariant c.has.result c.has.ensures c.if-not-has.false)
