use Rattle.std.proofs.Common.{ℕ, Some, Vec, ap, ◌∙◌, arith}
use Rattle.std.proofs.lemmas.Option.{slice_get_within}
use Rattle.ira_elim.proofs.Places.{one_more, none_more, found_some, found_none}
use Rattle.ira_elim.proofs.elimination.asked_places.Goals as goal
use Rattle.ira_elim.proofs.elimination.asked_places.Goals.{then-is_some+in_ok-push, else-is_some}

pub loop-place-preserved : goal.loop-place-preserved
loop-place-preserved g c =
    let queues = c.args.queues.now in let asked = c.loop-place.asked.items in let place = c.loop-place.place in
    let so_far = c.loop-place.invariant in
    elim c.if-is_some.branch [
      | then-is_some+in_ok-push w ↦
          let has = found_some queues (λ left. left.now) place c.candidates_left.result c.is_some.result
          c.candidates_left.ensures c.is_some.ensures w.if-is_some.true in
          let more = one_more queues asked c.if-is_some.asked.items place has
          (ap (λ (v : Vec ℕ g.row.A.Denot). v.items) w.asked-is
          ∙ w.in_ok-push.ensures.items) so_far.listed so_far.all in
          record { listed = more.0; all = more.1 }
      | else-is_some w ↦
          let none = found_none queues (λ left. left.now) place c.candidates_left.result c.is_some.result
          c.candidates_left.ensures c.is_some.ensures w.if-is_some.false in
          let same = none_more queues asked c.if-is_some.asked.items place none
          (ap (λ (v : Vec ℕ g.row.A.Denot). v.items) w.asked-is) so_far.listed so_far.all in
          record { listed = same.0; all = same.1 }
    ]

pub returns : goal.returns
returns g c = λ i. (
  c.loop-place.invariant.listed i,
  λ has. c.loop-place.invariant.all i (let l = slice_get_within c.args.queues.now i (Some has.0) has.1 in
      omega arith) has,
)
