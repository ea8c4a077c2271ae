use Rattle.std.proofs.Common.{◌∙◌, ◌≤◌, ◌-◌, Some, ap, inl, inr, refl, arith}
use Rattle.ira_event.specs.declared.event.Event.TheVariants.{Draw, Sent, Got, Yield}
use Rattle.ira_mend.proofs.Beginnings.{holds_last, longest_at_first, longest_less, one_less, some_events}
use Rattle.ira_mend.proofs.beginning.Beginning.with_receipts.Goals.{in-Got, in-Sent, in-Draw}
use Rattle.ira_mend.proofs.beginning.Beginning.with_receipts.Goals as goal

pub loop-kept-init : goal.loop-kept-init
loop-kept-init g c = record {
  is = c.requires;
  longest = longest_at_first c.args.log.now.events c.args.self.events c.args.most;
}

pub overflow_sub-kept-in-Sent : goal.overflow_sub-kept-in-Sent
overflow_sub-kept-in-Sent g c =
    let es = c.args.log.now.events in
    let is = c.loop-kept.invariant.is in
    let some : 1 ≤ c.loop-kept.kept.events = omega (arith, some_events es c.loop-kept.kept is, c.loop-kept-test.true) in
    (holds_last es c.loop-kept.kept (Sent c.in-Sent.field-0) is some c.in-Sent.ensures).1

pub loop-kept-preserved : goal.loop-kept-preserved
loop-kept-preserved g c =
    let es = c.args.log.now.events in
    let kept = c.loop-kept.kept in
    let is = c.loop-kept.invariant.is in
    let some : 1 ≤ c.loop-kept.kept.events = omega (arith, some_events es c.loop-kept.kept is, c.loop-kept-test.true) in
    let longest = longest_less es kept c.args.self.events c.args.most (kept.events - 1) is c.loop-kept-test.true refl
    c.loop-kept.invariant.longest in
    elim c.match-event.branch [
      | in-Got w ↦
          let last = holds_last es kept (Got w.in-Got.field-0) is some w.in-Got.ensures in
          rw w.kept-is (record {
            is = one_less es kept (record {
              events = kept.events - 1;
              receipts = kept.receipts - 1;
              sendings = kept.sendings;
            }) (Got w.in-Got.field-0) is some w.in-Got.ensures refl (omega (arith, last.0))
                (omega arith);
            longest = longest;
          })
      | in-Sent w ↦
          let last = holds_last es kept (Sent w.in-Sent.field-0) is some w.in-Sent.ensures in
          rw w.kept-is (record {
            is = one_less es kept (record {
              events = kept.events - 1;
              receipts = kept.receipts;
              sendings = kept.sendings - 1;
            }) (Sent w.in-Sent.field-0) is some w.in-Sent.ensures refl (omega arith)
                (omega (arith, last.1));
            longest = longest;
          })
      | in-Draw w ↦ elim w.in-Draw.is [
        | inl draw ↦ rw w.kept-is (record {
          is = one_less es kept (record {
            events = kept.events - 1;
            receipts = kept.receipts;
            sendings = kept.sendings;
          }) (Draw draw.0) is some (c.event.ensures
              ∙ ap Some draw.1) refl (omega arith) (omega arith);
          longest = longest;
        })
        | inr yield ↦ rw w.kept-is (record {
          is = one_less es kept (record {
            events = kept.events - 1;
            receipts = kept.receipts;
            sendings = kept.sendings;
          }) Yield is some (c.event.ensures
              ∙ ap Some yield) refl (omega arith) (omega arith);
          longest = longest;
        })
      ]
    ]
