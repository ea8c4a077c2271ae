use Rattle.std.proofs.Common.{ℕ, ◌≤◌, inl, get_or, refl, sym, ◌∙◌, subst, arith}
use Rattle.std.proofs.lemmas.Option.{same_Some}
use Rattle.ira_order.specs.VectorClock.{IsCount}
use Rattle.ira_elim.specs.Elimination.{IsFirstLeft}
use Rattle.ira_elim.specs.CandidateClock.{IsCandidateClock}
use Rattle.ira_elim.proofs.Greatest.{greatest_more}
use Rattle.ira_elim.proofs.Places.{at_place, each_place}
use Rattle.ira_elim.proofs.Standing.{found_at, is_within, long_counts}
use Rattle.ira_elim.proofs.elimination.greatest_count.Goals as goal

pub loop-other-init : goal.loop-other-init
loop-other-init g c = λ logs queues lp places left inside are counted. (λ k l. absurd (omega arith), inl refl)

pub bounds-stands-from : goal.bounds-stands-from
bounds-stands-from g c =
    let asked = c.args.asked.now in
    omega (
      arith,
      c.from.ensures,
      is_within c.args.stands.now asked (get_or asked c.loop-other.other-index 0) c.requires.standing
          (at_place asked c.loop-other.other-index c.loop-other-test.true),
    )

pub offset_bounds-stands-from : goal.offset_bounds-stands-from
offset_bounds-stands-from g c =
    let asked = c.args.asked.now in
    omega (
      arith,
      c.from.ensures,
      is_within c.args.stands.now asked (get_or asked c.loop-other.other-index 0) c.requires.standing
          (at_place asked c.loop-other.other-index c.loop-other-test.true),
    )

pub count-requires : goal.count-requires
count-requires g c =
    let stands = c.args.stands.now in let asked = c.args.asked.now in
    let other : ℕ = get_or asked c.loop-other.other-index 0 in
    let member = at_place asked c.loop-other.other-index c.loop-other-test.true in
    let within = is_within stands asked other c.requires.standing member in
    let at = found_at stands c.from.result other c.index-stands-from.result c.from.ensures
    (omega (arith, c.from.ensures, within)) c.index-stands-from.is in
    omega (
      arith,
      long_counts stands asked other c.index-stands-from.result c.requires.standing member at,
      c.requires.place,
    )

pub loop-other-preserved : goal.loop-other-preserved
loop-other-preserved g c = λ logs queues lp places left inside are counted.
    let stands = c.args.stands.now in let asked = c.args.asked.now in
    let so_far = c.loop-other.invariant logs queues lp places left inside are counted in
    let other : ℕ = get_or asked c.loop-other.other-index 0 in
    let member = at_place asked c.loop-other.other-index c.loop-other-test.true in
    let within = is_within stands asked other c.requires.standing member in
    let at = found_at stands c.from.result other c.index-stands-from.result c.from.ensures
    (omega (arith, c.from.ensures, within)) c.index-stands-from.is in
    let first = left other ((places other).0 member) in
    let stand = are other first.0 first.1 in
    let is : IsCandidateClock logs other first.0 c.index-stands-from.result =
    subst (IsCandidateClock logs other first.0) (same_Some _ _ (sym stand.1 ∙ at)) stand.2 in
    let here = inside other first.0 first.1 in
    let count : IsCount logs other first.0 c.args.place c.count.result =
    c.count.ensures logs first.0 here.0 lp here.1 is
    (counted other first.0 c.index-stands-from.result first.1 at) in
    greatest_more logs queues asked c.args.place c.loop-other.other-index c.loop-other.greatest first.0 c.count.result
    c.max-greatest.result is.order.1 is.order.2 first.1 count c.max-greatest.ensures so_far.0 so_far.1

pub returns : goal.returns
returns g c = λ logs queues lp places left inside are counted.
    let all = c.loop-other.invariant logs queues lp places left inside are counted in
    record {
      upper = λ j q first.
          each_place queues c.args.asked.now (λ (j : ℕ). (q : ℕ) → IsFirstLeft queues j q → (n : ℕ)
          × IsCount logs j q c.args.place n × (n ≤ c.loop-other.greatest)) places
          (λ k l. all.0 k (omega arith)) j (first.0, first.1) q first;
      reached = all.1;
    }
