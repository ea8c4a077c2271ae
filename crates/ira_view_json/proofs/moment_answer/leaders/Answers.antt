use Rattle.std.proofs.Common.{arith}
use Rattle.std.proofs.lemmas.Option.{slice_get_within}
use Rattle.ira_view_moment.specs.Moment.{LeadsAt}
use Rattle.ira_view_moment.proofs.Those.{none_those, place_more, place_over, those_same}
use Rattle.ira_view_json.proofs.moment_answer.leaders.Goals as goal
use Rattle.ira_view_json.proofs.moment_answer.leaders.Goals.{then-leads+in_ok-push, else-leads}

pub loop-place-init : goal.loop-place-init
loop-place-init g c = rw c.new-leaders.ensures.items (none_those (λ i h. omega (arith, h.0)))

pub loop-place-preserved : goal.loop-place-preserved
loop-place-preserved g c =
    let P = LeadsAt c.args.moment.now in
    let place = c.loop-place.place in
    elim c.if-leads.branch [
      | then-leads+in_ok-push w ↦
          rw (w.leaders-is, w.in_ok-push.ensures.items)
          (place_more P place c.loop-place.leaders.items (c.leads.ensures.0 w.if-leads.true) c.loop-place.invariant)
      | else-leads w ↦
          rw w.leaders-is
          (place_over P place c.loop-place.leaders.items (λ leads. let is = c.leads.ensures.1 leads in cc)
          c.loop-place.invariant)
    ]

pub returns : goal.returns
returns g c =
    let nodes = c.args.moment.now.nodes in
    let size = c.size-place-end.ensures.value in
    those_same (λ i. (
      λ h. h.1,
      λ h. (let less = slice_get_within nodes i h.progress h.at in omega (arith, less, c.loop-place-test.false, size), h),
    )) c.loop-place.invariant
