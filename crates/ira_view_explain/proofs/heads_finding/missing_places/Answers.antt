use Rattle.std.proofs.Common.{◌≡◌, ◌≤◌, ℕ, None, arith, rules, subst, true}
use Rattle.std.specs.Prelude.{MatchOption, is_some}
use Rattle.ira_view_explain.specs.HeadsHint.{IsOfPlace}
use Rattle.ira_view_explain.proofs.Places.{head_there, none_missing, one_had, one_missing}
use Rattle.ira_view_explain.proofs.heads_finding.missing_places.Goals as goal
use Rattle.ira_view_explain.proofs.heads_finding.missing_places.Goals.{then-is_none+in_ok-push, else-is_none}

pub loop-place-init : goal.loop-place-init
loop-place-init g c = rw c.new-places.ensures.items (none_missing c.args.heads.now)

pub loop-place-preserved : goal.loop-place-preserved
loop-place-preserved g c =
    let heads = c.args.heads.now in
    let place = c.loop-place.place in
    elim c.if-is_none.branch [
      | then-is_none+in_ok-push w ↦
          let none : c.head_of.result ≡ None = search rules in
          let nowhere = subst (λ o. MatchOption o ((i : ℕ) → 0 ≤ i → ¬ (IsOfPlace heads i place))
          (λ i. (0 ≤ i) × IsOfPlace heads i place)) none c.head_of.ensures in
          rw (w.places-is, w.in_ok-push.ensures.items) (one_missing heads place c.loop-place.places.items
          (λ i. nowhere i (omega arith)) c.loop-place.invariant)
      | else-is_none w ↦
          let some : is_some c.head_of.result ≡ true = search rules in
          let had = head_there heads place c.head_of.result c.head_of.ensures some in
          rw w.places-is (one_had heads place had.0 c.loop-place.places.items had.1 c.loop-place.invariant)
    ]
