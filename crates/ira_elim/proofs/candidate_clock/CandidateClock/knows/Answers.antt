use Rattle.std.proofs.Common.{◌≡◌, ◌<◌, ◌∙◌, List, ℕ, length, ap, refl, arith}
use Rattle.std.specs.Prelude.{slice_index}
use Rattle.std.proofs.lemmas.List.{get_or_read}
use Rattle.ira_elim.specs.CandidateClock.{CandidateClock}
use Rattle.ira_elim.proofs.Clocks.{counts_know}
use Rattle.ira_elim.proofs.candidate_clock.CandidateClock.knows.Goals as goal

pub returns-then-index-position-clause-value : goal.returns-then-index-position-clause-value
returns-then-index-position-clause-value g c = λ ne.
    let logs = (g.C.HappenedBefore.logs_of c.args.ordered.now) in
    let old = c.requires.old in
    let kept : c.self.inside.counts.items ≡ c.args.self.now.counts =
    ap (λ (s : CandidateClock). s.counts) c.self.view_is in
    let within : c.from.result < length c.self.inside.counts.items =
    omega (arith, c.from.ensures, c.requires.places.1, old.counts.places, ap (λ (xs : List ℕ). length xs) kept) in
    let read : c.index.result.now ≡ slice_index c.args.self.now.counts c.args.place =
    get_or_read c.self.inside.counts.items c.from.result c.index.result.now within c.index.ensures 0
    ∙ ap (slice_index c.self.inside.counts.items) c.from.ensures
    ∙ ap (λ (xs : List ℕ). slice_index xs c.args.place) kept in (
      λ yes. counts_know logs c.args.own c.args.self.now.position c.args.self.now old c.args.place c.args.position
          c.requires.within c.requires.places.1 ne (omega (arith, c.if-index-position.true, read)),
      λ before. refl,
    )
