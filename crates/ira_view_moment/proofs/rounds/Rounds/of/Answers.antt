use Rattle.std.proofs.Common.{◌≡◌, ◌∙◌, ◌+◌, ◌-◌, ◌<◌, ℕ, Some, ap, arith, inl, subst}
use Rattle.std.specs.Prelude.{slice_get, slice_index}
use Rattle.std.proofs.lemmas.Option.{slice_get_within}
use Rattle.ira_node.specs.NodeStep.{NodeStep}
use Rattle.ira_node.specs.NodeStepFault.{NodeStepFault}
use Rattle.ira_election.specs.Draws.{DrewWithin}
use Rattle.ira_view_moment.specs.Drawing.{DrewBefore}
use Rattle.ira_view_moment.specs.Rounds.{AreRoundsOf}
use Rattle.ira_view_moment.proofs.Added.{rounds_added, rounds_same}
use Rattle.ira_view_moment.proofs.Drawing.{draws_more, draws_same, node_done}
use Rattle.ira_view_moment.proofs.Progress.{no_fault, reaches_more}
use Rattle.ira_view_moment.proofs.rounds.Rounds.of.Goals as goal
use Rattle.ira_view_moment.proofs.rounds.Rounds.of.Goals.{in-Draw+in-Choosing+in_ok-add, in-Draw+in_default-phase, in_default}

pub unreachable-requires : goal.unreachable-requires
unreachable-requires g c =
    let log = c.log-log.result.now in
    let back : c.loop-k.k + 1 - 1 ≡ c.loop-k.k = omega arith in
    let at : slice_get log.events c.loop-k.k ≡ Some c.event-event.result = rw back at c.event-event.ensures in
    let fault : NodeStepFault log.nodes c.loop-k.state c.event-event.result c.in-Err.field-0 =
    rw c.nodes.ensures at c.in-Err.ensures.steps in
    no_fault log c.loop-k.k c.loop-k.state c.event-event.result c.in-Err.field-0
    (c.requires.local c.loop-place.place log c.log-log.ensures.value) c.loop-k.invariant.reached at fault

pub loop-k-preserved : goal.loop-k-preserved
loop-k-preserved g c =
    let log = c.log-log.result.now in
    let back : c.loop-k.k + 1 - 1 ≡ c.loop-k.k = omega arith in
    let at : slice_get log.events c.loop-k.k ≡ Some c.event-event.result = rw back at c.event-event.ensures in
    let step : NodeStep log.nodes c.loop-k.state c.event-event.result c.advance.new.self =
    rw c.nodes.ensures at c.in-Ok.ensures.steps in
    let cut = c.args.cut.now in
    let logs = c.args.logs.now in
    let within : c.loop-k.k < slice_index cut c.loop-place.place =
    omega (arith, c.loop-k-test.true, ap (slice_index cut) c.from.ensures) in
    let same = draws_same logs cut c.requires.local c.loop-place.place log c.log-log.ensures.value c.loop-k.k
    c.loop-k.state c.event-event.result c.loop-k.invariant.reached at within in
    let more = draws_more logs cut c.requires.local c.loop-place.place log c.log-log.ensures.value c.loop-k.k
    c.loop-k.state c.event-event.result c.loop-k.invariant.reached at within in
    record {
      reached = reaches_more log c.loop-k.k c.loop-k.state c.advance.new.self c.event-event.result
          c.loop-k.invariant.reached at step;
      rounds = elim c.match-event.branch [
        | in-Draw+in-Choosing+in_ok-add w ↦
            rw w.rounds-is
            (rounds_added (more w.in-Choosing.round w.in-Draw.id w.in-Draw.is w.in-Choosing.is) c.loop-k.rounds
            w.add.new.self w.in_ok-add.ensures c.loop-k.invariant.rounds)
        | in-Draw+in_default-phase w ↦
            rw w.rounds-is
            (rounds_same (same (λ round id is chooses. w.in_default-phase.not-Choosing round chooses))
            c.loop-k.invariant.rounds)
        | in_default w ↦
            rw w.rounds-is
            (rounds_same (same (λ round id is chooses. w.in_default.not-Draw id is)) c.loop-k.invariant.rounds)
      ];
    }

pub loop-place-preserved : goal.loop-place-preserved
loop-place-preserved g c =
    let logs = c.args.logs.now in
    let cut = c.args.cut.now in
    let there : c.loop-k.k ≡ slice_index cut c.from.result =
    omega (arith, c.loop-k-test.false, c.loop-k.auto.k-end) in
    let end : c.loop-k.k ≡ slice_index cut c.loop-place.place = there ∙ ap (slice_index cut) c.from.ensures in
    rounds_same (node_done logs cut c.loop-place.place)
    (subst (λ (k : ℕ). AreRoundsOf (DrewBefore logs cut c.loop-place.place k) c.loop-k.rounds) end
    c.loop-k.invariant.rounds)

pub returns : goal.returns
returns g c =
    let logs = c.args.logs.now in
    let cut = c.args.cut.now in
    rounds_same {D = DrewBefore logs cut c.loop-place.place 0} {E = DrewWithin logs cut} (λ i t n d. (
      λ h. h.0,
      λ w. (
        w,
        inl (omega (
          arith,
          slice_get_within logs i w.drew.is_in.log w.drew.is_in.at,
          c.loop-place-test.false,
          c.get-place-end.ensures.value,
          c.size.ensures.value,
        )),
      ),
    ))
    c.loop-place.invariant
