use Rattle.std.proofs.Common.{◌≡◌, ◌+◌, ◌-◌, arith, length, rules, subst, sym}
use Rattle.std.specs.Prelude.{◌↔◌, slice_index}
use Rattle.ira_view_picture.specs.declared.after.After.TheVariants.{State}
use Rattle.ira_view_picture.specs.Lane.{IsMark}
use Rattle.ira_view_picture.specs.Window.{IsIn}
use Rattle.ira_view_picture.specs.Traffic.{ChangesNothing}
use Rattle.ira_view_picture.proofs.DrawnMarks.{marks_more, marks_over, no_marks}
use Rattle.ira_view_picture.proofs.Effects.{changes_nothing}
use Rattle.ira_view_picture.proofs.Starts.{start_more, start_none, start_over}
use Rattle.ira_view_picture.proofs.lane.Lane.of.Goals as goal
use Rattle.ira_view_picture.proofs.lane.Lane.of.Goals.{then-contains+in_ok-push, else-contains+then-column-window}
use Rattle.ira_view_picture.proofs.lane.Lane.of.Goals.{else-contains+else-column-window}

pub loop-k-init : goal.loop-k-init
loop-k-init g c = record {
  events = c.start-replay.ensures.events;
  replayed = c.start-replay.ensures.replayed;
  marks = rw c.new-marks.ensures.items (no_marks c.args.log.now c.args.columns.now c.args.window);
  start = start_none c.args.log.now c.args.columns.now c.args.window _ c.start-replay.ensures.known;
  traffic = c.in_ok-traffic.ensures c.args.log.now;
}

pub loop-k-preserved : goal.loop-k-preserved
loop-k-preserved g c =
    let log = c.args.log.now in
    let k = c.loop-k.k in
    let before : c.loop-k.replay.events ≡ c.loop-k.k = c.loop-k.invariant.events in
    let here : c.advance-event.new.self.events ≡ c.loop-k.k + 1 =
    omega (arith, c.advance-event.ensures.events, before) in
    let column : c.unwrap_or-column.result ≡ slice_index c.args.columns.now c.loop-k.k = search rules in
    record {
      events = here;
      replayed = rw before at c.advance-event.ensures.replayed;
      marks = elim c.if-contains.branch [
        | then-contains+in_ok-push w ↦
            let last : c.advance-event.new.self.events - 1 ≡ c.loop-k.replay.events =
            omega (arith, c.advance-event.ensures.events) in
            let index : c.advance-event.new.self.events - 1 ≡ c.loop-k.k = omega (arith, here) in
            let is : IsMark c.args.log.now c.args.columns.now
            (record {
              position = c.advance-event.new.self.events;
              column = c.unwrap_or-column.result;
              event = c.advance-event.result.0;
              after = c.advance-event.result.1;
            }) =
            record {
              first = omega (arith, here);
              event = rw last c.advance-event.ensures.event;
              column = rw index column;
              after = rw c.advance-event.ensures.events c.advance-event.ensures.known;
            } in
            let within : IsIn c.args.window c.unwrap_or-column.result = search rules in
            rw (w.marks-is, w.in_ok-push.ensures.items)
            (marks_more log c.args.columns.now c.args.window k c.loop-k.marks.items c.loop-k.invariant.marks _ is
            within here)
        | else-contains+then-column-window w ↦
            rw w.marks-is (marks_over log c.args.columns.now c.args.window k c.loop-k.marks.items
            c.loop-k.invariant.marks
            (λ within. (let drawn : IsIn c.args.window c.unwrap_or-column.result = rw column within in search rules)))
        | else-contains+else-column-window w ↦
            rw w.marks-is (marks_over log c.args.columns.now c.args.window k c.loop-k.marks.items
            c.loop-k.invariant.marks
            (λ within. (let drawn : IsIn c.args.window c.unwrap_or-column.result = rw column within in search rules)))
      ];
      start = elim c.if-contains.branch [
        | then-contains+in_ok-push w ↦
            let within : IsIn c.args.window c.unwrap_or-column.result = search rules in
            rw w.start-is (start_over log c.args.columns.now c.args.window k c.loop-k.start c.loop-k.invariant.start
            (omega (arith, column, within.0)))
        | else-contains+then-column-window w ↦
            rw w.start-is (start_more log c.args.columns.now c.args.window k c.advance-event.result.1 c.requires.rise
            (omega (arith, c.requires.count, c.loop-k-test.true, c.loop-k.auto.k-end, c.len-k-end.ensures.value))
            (omega (arith, column, w.if-column-window.true)) (rw before at c.advance-event.ensures.known))
        | else-contains+else-column-window w ↦
            rw w.start-is (start_over log c.args.columns.now c.args.window k c.loop-k.start c.loop-k.invariant.start
            (omega (arith, column, w.if-column-window.false)))
      ];
      traffic = c.in_ok-add.ensures log k (rw before at c.advance-event.ensures.event) here
          (subst (λ p. ChangesNothing c.args.log.now p ↔ (c.advance-event.result.1 ≡ State c.loop-k.replay.end)) (sym here)
          (changes_nothing log k c.loop-k.replay.end c.loop-k.replay.first_fault c.advance-event.result.1
          c.loop-k.invariant.replayed (rw before at c.advance-event.ensures.known)))
          c.loop-k.invariant.traffic;
    }

pub returns-clause-marks : goal.returns-clause-marks
returns-clause-marks g c =
    let end : c.loop-k.k ≡ length c.args.log.now.events =
    omega (arith, c.loop-k.auto.k-end, c.loop-k-test.false, c.len-k-end.ensures.value) in
    rw end at c.loop-k.invariant.marks

pub returns-clause-traffic : goal.returns-clause-traffic
returns-clause-traffic g c =
    let end : c.loop-k.k ≡ length c.args.log.now.events =
    omega (arith, c.loop-k.auto.k-end, c.loop-k-test.false, c.len-k-end.ensures.value) in
    rw end at c.loop-k.invariant.traffic
