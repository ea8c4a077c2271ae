use Rattle.std.proofs.Common.{◌<◌, arith, ap, length}
use Rattle.std.proofs.lemmas.List.{length_push}
use Rattle.std.proofs.lemmas.List.Sums.{sum_by_more}
use Rattle.ira_order.specs.declared.tally.Tally.{Tally}
use Rattle.ira_order.specs.OrderPrefix.{tally_at}
use Rattle.ira_order.specs.Tally.{no_events}
use Rattle.ira_view_evidence.specs.CircleEvidence.{IsStuckAt}
use Rattle.ira_order.proofs.Pushed.{each_pushed}
use Rattle.ira_view_evidence.proofs.StuckNodes.{few_made, received_by}
use Rattle.ira_view_evidence.proofs.circle_evidence.stuck_nodes.Goals as goal

pub overflow_add-ordered : goal.overflow_add-ordered
overflow_add-ordered g c =
    let within : c.loop-place.place < length c.args.logs.now =
    omega (arith, c.loop-place-test.true, c.get-nodes.ensures.value, c.size.ensures.value) in
    omega (
      arith,
      few_made c.args.logs.now c.args.prefix.now c.loop-place.place c.requires.prefix within,
      ap (λ (t : Tally). t.events) c.tally-tally.ensures,
      c.loop-place.invariant.few,
      within,
      c.size.ensures.valid.ring.1,
    )

pub stuck_at-requires-clause-received : goal.stuck_at-requires-clause-received
stuck_at-requires-clause-received g c =
    let within : c.loop-place.place < length c.args.logs.now =
    omega (arith, c.loop-place-test.true, c.get-nodes.ensures.value, c.size.ensures.value) in
    rw c.tally-tally.ensures (received_by c.args.logs.now c.args.prefix.now c.loop-place.place c.requires.prefix within)

pub stuck_at-requires-clause-waiting : goal.stuck_at-requires-clause-waiting
stuck_at-requires-clause-waiting g c =
    let within : c.loop-place.place < length c.args.logs.now =
    omega (arith, c.loop-place-test.true, c.get-nodes.ensures.value, c.size.ensures.value) in
    rw c.tally-tally.ensures (c.requires.waiting c.loop-place.place within)

pub loop-place-preserved : goal.loop-place-preserved
loop-place-preserved g c =
    let within : c.loop-place.place < length c.args.logs.now =
    omega (arith, c.loop-place-test.true, c.get-nodes.ensures.value, c.size.ensures.value) in
    let here = few_made c.args.logs.now c.args.prefix.now c.loop-place.place c.requires.prefix within in
    let more = sum_by_more (λ (t : Tally). t.events) c.args.prefix.now.tallies c.loop-place.place no_events
    (omega (arith, c.requires.prefix.nodes, within)) in
    let events = ap (λ (t : Tally). t.events) c.tally-tally.ensures in
    let stuck = rw c.tally-tally.ensures at c.stuck_at.ensures in
    rw c.in_ok-push.ensures.items (record {
      places = omega (arith, length_push c.loop-place.stuck.items c.stuck_at.result, c.loop-place.invariant.places);
      total = omega (arith, more, events, c.loop-place.invariant.total);
      few = omega (arith, here, events, c.loop-place.invariant.few);
      each = each_pushed (λ j s. IsStuckAt c.args.logs.now j (tally_at c.args.prefix.now.tallies j).events s)
          c.loop-place.stuck.items c.loop-place.place c.stuck_at.result c.loop-place.invariant.places
          c.loop-place.invariant.each stuck;
    })
