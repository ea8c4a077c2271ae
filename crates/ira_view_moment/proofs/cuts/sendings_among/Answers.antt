use Rattle.std.proofs.Common.{◌≡◌, ◌∙◌, ◌+◌, ◌-◌, ◌∷◌, [], Some, ap, arith, length, take}
use Rattle.std.specs.Prelude.{slice_get}
use Rattle.std.proofs.lemmas.List.{length-append}
use Rattle.ira_order.specs.Matching.{sending, sent}
use Rattle.ira_order.proofs.OrderPrefixes.{rank_le}
use Rattle.ira_view_moment.proofs.OnTheWay.{no_sending, sent_on, sent_over}
use Rattle.ira_view_moment.proofs.cuts.sendings_among.Goals.{in-Sent, in_default}
use Rattle.ira_view_moment.proofs.cuts.sendings_among.Goals as goal

pub overflow_add-sendings : goal.overflow_add-sendings
overflow_add-sendings g c =
    omega (arith, c.loop-k.invariant, c.loop-k-test.true, rank_le sending c.args.log.now.events c.loop-k.k)

pub loop-k-preserved : goal.loop-k-preserved
loop-k-preserved g c =
    let es = c.args.log.now.events in
    let k = c.loop-k.k in
    let back : c.loop-k.k + 1 - 1 ≡ c.loop-k.k = omega arith in
    let at : slice_get c.args.log.now.events c.loop-k.k ≡ Some c.event.result = rw back at c.event.ensures in
    elim c.match-event.branch [
      | in-Sent w ↦ (let more = sent_on es k w.in-Sent.field-0 (at ∙ ap Some w.in-Sent.is) in
          omega (
            arith,
            w.sendings-is,
            c.loop-k.invariant,
            ap length more,
            length-append (sent (take k es)) (w.in-Sent.field-0 ∷ []),
          ))
      | in_default w ↦ (let same = sent_over es k c.event.result at (no_sending c.event.result w.in_default.not-Sent) in
          omega (arith, w.sendings-is, c.loop-k.invariant, ap length same))
    ]

pub returns-clause-few : goal.returns-clause-few
returns-clause-few g c = omega (
  arith,
  c.loop-k.invariant,
  c.loop-k-test.false,
  c.loop-k.auto.k-end,
  rank_le sending c.args.log.now.events c.loop-k.k,
)
