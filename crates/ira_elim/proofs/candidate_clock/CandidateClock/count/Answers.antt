use Rattle.std.proofs.Common.{◌≡◌, ◌<◌, ℕ, List, length, sym, ◌∙◌, ap, subst, arith}
use Rattle.std.specs.Prelude.{slice_index}
use Rattle.std.proofs.lemmas.List.{get_or_read}
use Rattle.ira_order.specs.VectorClock.{IsCount}
use Rattle.ira_order.proofs.Counting.{count_own}
use Rattle.ira_elim.specs.CandidateClock.{CandidateClock}
use Rattle.ira_elim.proofs.Clocks.{counted_here}
use Rattle.ira_elim.proofs.candidate_clock.CandidateClock.count.Goals as goal

pub returns-then-place-own : goal.returns-then-place-own
returns-then-place-own g c = λ logs q lo lp l is counted.
    let here : q ≡ c.self.inside.position =
    sym is.position ∙ sym (ap (λ (s : CandidateClock). s.position) c.self.view_is) in
    subst (λ (i : ℕ). IsCount logs c.args.own q i c.self.inside.position) (sym c.if-place-own.true)
    (subst (IsCount logs c.args.own q c.args.own) here (count_own logs is.order.1 is.order.2 c.args.own q lo l))

pub returns : goal.returns
returns g c = λ logs q lo lp l is counted.
    let kept : c.self.inside.counts.items ≡ c.args.self.now.counts =
    ap (λ (s : CandidateClock). s.counts) c.self.view_is in
    let within : c.from.result < length c.self.inside.counts.items =
    omega (arith, c.from.ensures, c.requires, ap (λ (xs : List ℕ). length xs) kept) in
    let read : c.index.result.now ≡ slice_index c.args.self.now.counts c.args.place =
    get_or_read c.self.inside.counts.items c.from.result c.index.result.now within c.index.ensures 0
    ∙ ap (slice_index c.self.inside.counts.items) c.from.ensures
    ∙ ap (λ (xs : List ℕ). slice_index xs c.args.place) kept in
    rw read (counted_here logs c.args.own q c.args.self.now is c.args.place counted lp c.if-place-own.false)
