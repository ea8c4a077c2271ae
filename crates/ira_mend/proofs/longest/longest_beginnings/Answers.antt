use Rattle.std.proofs.Common.{◌≡◌, ◌∙◌, ◌<◌, ap, arith, length, subst}
use Rattle.ira_order.specs.Ring.{next}
use Rattle.ira_order.proofs.Ranks.{next_below}
use Rattle.ira_mend.specs.Longest.{IsSettled}
use Rattle.ira_mend.proofs.Settling.{greatest_kept, settled_all, settled_on, settled_round, written_back}
use Rattle.ira_mend.proofs.longest.longest_beginnings.Goals as goal

pub loop-link-preserved : goal.loop-link-preserved
loop-link-preserved g c =
    let logs = c.args.logs.now in
    let old = c.loop-link.kept.items in
    let new = c.settle.new.kept in
    let link = c.loop-link.link in
    let h = c.loop-link.invariant in
    let s : IsSettled c.args.logs.now c.loop-link.link c.loop-link.kept.items c.settle.new.kept c.settle.result =
    subst (λ o. IsSettled c.args.logs.now c.loop-link.link o c.settle.new.kept c.settle.result)
    c.deref_mut.ensures.value c.settle.ensures in
    let within : c.loop-link.link < length c.args.logs.now =
    omega (arith, c.loop-link-test.true, c.get-nodes.ensures.value, c.size.ensures.value) in
    let back = written_back new old c.loop-link.kept.len
    (omega (arith, s.kept.places, h.are.places, c.deref_mut.ensures.len, ap length c.deref_mut.ensures.value)) in
    rw back (record {
      are = s.kept;
      bounds = s.bounds h.bounds;
      settled = settled_round logs link old new c.settle.result s within h.settled;
    })

pub loop-link-2-preserved : goal.loop-link-2-preserved
loop-link-2-preserved g c =
    let logs = c.args.logs.now in
    let old = c.loop-link-2.kept.items in
    let new = c.settle-in-loop-link-2.new.kept in
    let link = c.loop-link-2.link in
    let h = c.loop-link-2.invariant in
    let s : IsSettled c.args.logs.now c.loop-link-2.link c.loop-link-2.kept.items c.settle-in-loop-link-2.new.kept
    c.settle-in-loop-link-2.result =
    subst (λ o. IsSettled c.args.logs.now c.loop-link-2.link o c.settle-in-loop-link-2.new.kept
    c.settle-in-loop-link-2.result) c.deref_mut-in-loop-link-2.ensures.value c.settle-in-loop-link-2.ensures in
    let back = written_back new old c.loop-link-2.kept.len
    (omega (
      arith,
      s.kept.places,
      h.are.places,
      c.deref_mut-in-loop-link-2.ensures.len,
      ap length c.deref_mut-in-loop-link-2.ensures.value,
    )) in
    let to : c.successor-link.result ≡ next (length c.args.logs.now) c.loop-link-2.link =
    c.successor-link.ensures.value ∙ ap (λ n. next n c.loop-link-2.link) (c.get-nodes.ensures.value ∙ c.size.ensures.value) in
    rw (back, to) (record {
      are = s.kept;
      bounds = s.bounds h.bounds;
      within = next_below (length logs) link h.within;
      settled = settled_on logs link old new c.settle-in-loop-link-2.result s h.settled;
    })

pub returns : goal.returns
returns g c =
    let logs = c.args.logs.now in
    let old = c.loop-link-2.kept.items in
    let new = c.settle-in-loop-link-2.new.kept in
    let link = c.loop-link-2.link in
    let h = c.loop-link-2.invariant in
    let s : IsSettled c.args.logs.now c.loop-link-2.link c.loop-link-2.kept.items c.settle-in-loop-link-2.new.kept
    c.settle-in-loop-link-2.result =
    subst (λ o. IsSettled c.args.logs.now c.loop-link-2.link o c.settle-in-loop-link-2.new.kept
    c.settle-in-loop-link-2.result) c.deref_mut-in-loop-link-2.ensures.value c.settle-in-loop-link-2.ensures in
    let back = written_back new old c.loop-link-2.kept.len
    (omega (
      arith,
      s.kept.places,
      h.are.places,
      c.deref_mut-in-loop-link-2.ensures.len,
      ap length c.deref_mut-in-loop-link-2.ensures.value,
    )) in
    rw back (greatest_kept logs new s.kept (s.bounds h.bounds)
    (settled_all logs link old new c.settle-in-loop-link-2.result s c.loop-link-2-test.false h.settled))
