use Rattle.std.proofs.Common.{◌≡◌, ◌∙◌, ℕ, refl, subst, sym, arith}
use Rattle.std.proofs.lemmas.Option.{same_Some}
use Rattle.ira_elim.specs.CandidateClock.{IsCandidateClock, IsCounted}
use Rattle.ira_elim.proofs.Places.{one_first}
use Rattle.ira_elim.proofs.Standing.{one_stand_more}
use Rattle.ira_elim.proofs.elimination.all_stands.Goals as goal
use Rattle.ira_elim.proofs.elimination.all_stands.Goals.{in-Some+in_ok-stand-in-Some, in-None}

pub at-requires-clause-position : goal.at-requires-clause-position
at-requires-clause-position g c = (c.requires.within _ _ c.in-Some.ensures).1

pub loop-place-preserved : goal.loop-place-preserved
loop-place-preserved g c =
    let logs = (g.C.HappenedBefore.logs_of c.args.ordered.now) in let queues = c.args.queues.now in
    let so_far = c.loop-place.invariant in
    let more = one_stand_more logs queues c.loop-place.stands.items c.push.new.self.items c.match-front.stand
    c.loop-place.place c.in_ok-push.ensures.items so_far.count so_far.stands
    (elim c.match-front.branch [
      | in-Some+in_ok-stand-in-Some w ↦ λ q first.
          let same : w.in-Some.position ≡ q =
          one_first queues c.loop-place.place c.loop-place.place w.in-Some.position q refl w.in-Some.ensures first
          in
          rw w.stand-is (
            subst (λ (n : ℕ). IsCandidateClock logs c.loop-place.place n w.in_ok-stand-in-Some.stand) same
                w.in_ok-stand-in-Some.ensures.clock,
            w.in_ok-stand-in-Some.ensures.counted,
          )
      | in-None w ↦ λ q first. absurd (w.in-None.ensures q first)
    ]) in
    record { count = more.0; stands = more.1 }

pub returns-clause-stands : goal.returns-clause-stands
returns-clause-stands g c = λ j q first.
    let st = c.loop-place.invariant.stands j (omega (
      arith,
      (c.requires.within j q first).0,
      c.requires.nodes,
      c.loop-place-test.false,
    )) q first in
    (st.0, st.1, st.2)

pub returns-clause-counted : goal.returns-clause-counted
returns-clause-counted g c = λ j q s first at.
    let st = c.loop-place.invariant.stands j (omega (
      arith,
      (c.requires.within j q first).0,
      c.requires.nodes,
      c.loop-place-test.false,
    )) q first in
    subst IsCounted (same_Some st.0 s (sym st.1 ∙ at)) st.3
