use Rattle.std.proofs.Common.{arith}
use Rattle.ira_election.specs.Draws.{IsContender}
use Rattle.ira_view_moment.proofs.Those.{none_those, place_more, place_over, those_same}
use Rattle.ira_view_election.proofs.Outdrawn.{from_contender, to_contender}
use Rattle.ira_view_election.proofs.contenders.contenders_of.Goals as goal
use Rattle.ira_view_election.proofs.contenders.contenders_of.Goals.{else-is_contender, then-is_contender+in_ok-push}

pub loop-place-init : goal.loop-place-init
loop-place-init g c = λ cut is. rw c.new-places.ensures.items (none_those (λ i p. omega (arith, p.0)))

pub loop-place-preserved : goal.loop-place-preserved
loop-place-preserved g c =
    λ cut is. (let rounds = c.args.rounds.now in
    let term = c.args.term in
    let place = c.loop-place.place in
    let P = IsContender c.args.logs.now cut term in
    elim c.if-is_contender.branch [
      | then-is_contender+in_ok-push w ↦
          rw (w.places-is, w.in_ok-push.ensures.items)
          (place_more P place c.loop-place.places.items
          (to_contender rounds is term place (c.is_contender.ensures.0 w.if-is_contender.true))
          (c.loop-place.invariant cut is))
      | else-is_contender w ↦
          rw w.places-is
          (place_over P place c.loop-place.places.items
          (λ h. (let yes = c.is_contender.ensures.1 (from_contender rounds is term place h) in
          let never = w.if-is_contender.false in
          cc)) (c.loop-place.invariant cut is))
    ])

pub returns : goal.returns
returns g c = λ cut is. those_same (λ i. (
  λ p. p.1,
  λ p. (
    omega (
      arith,
      p.starts.0,
      c.loop-place-test.false,
      c.get-place-end.ensures.value,
      c.size.ensures.value,
    ),
    p,
  ),
)) (c.loop-place.invariant cut is)
