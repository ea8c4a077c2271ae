use Rattle.std.proofs.Common.{◌∙◌, ℕ, List, ap, arith, get_or, map, refl, subst, sym}
use Rattle.std.specs.Prelude.{Contains}
use Rattle.std.proofs.lemmas.List.{get_or_default}
use Rattle.ira_view_moment.specs.Rounds.{DrawnRound, drawn}
use Rattle.ira_view_moment.specs.declared.rounds.Round.{Round}
use Rattle.ira_view_moment.proofs.Added.{kept_at}
use Rattle.ira_view_page.proofs.Adding.{◌&◌}
use Rattle.ira_view_show.specs.Reasons.TellsDraw.{drew}
use Rattle.ira_view_show.proofs.reasons.print_draw.Goals as goal

pub returns-then-draw-place : goal.returns-then-draw-place
returns-then-draw-place g c =
    let rounds = c.as_slice-rounds.result.now in
    let r = c.index-rounds-k.result in
    let draws = c.deref-draw-items.result.now in
    let n = c.loop-draw.draw-index in
    let d : ℕ × ℕ = get_or draws n (0, 0) in
    let kept : Contains (map drawn rounds) (drawn r) =
    subst (λ (x : Round g.row.R.Denot). Contains (map drawn rounds) (drawn x)) (sym c.index-rounds-k.is)
    (kept_at rounds _ _ (omega (arith, c.loop-k-test.true, c.loop-k.auto.k))) in
    let own : Contains draws d = (n, c.loop-draw-test.true, get_or_default draws n d (0, 0) c.loop-draw-test.true) in
    let there : Contains r.draws.items d =
    subst (λ (ds : List (ℕ × ℕ)). Contains ds d) c.deref-draw-items.ensures.value own in
    let page = rw (c.loop-draw.invariant ∙ c.loop-k.invariant) at c.print_drew.ensures in (
      _,
      drew (drawn r) d.1 (subst (λ (rs : List DrawnRound). Contains rs (drawn r)) c.as_slice-rounds.ensures kept)
          (subst (Contains r.draws.items) (ap (λ (i : ℕ). (i, d.1)) c.if-draw-place.true) there)
          refl,
      page & c.end.ensures,
    )
