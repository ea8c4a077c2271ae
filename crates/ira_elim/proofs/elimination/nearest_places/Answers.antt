use Rattle.std.proofs.Common.{◌≡◌, ◌+◌, ◌<◌, ◌∷◌, ◌∙◌, [], ℕ, List, below_more, get_or, length, ap, subst, sym, arith}
use Rattle.std.proofs.lemmas.List.{get_or_append_left, get_or_push, length_push}
use Rattle.ira_elim.specs.CandidateClock.{IsNearest}
use Rattle.ira_elim.proofs.elimination.nearest_places.Goals as goal

pub loop-place-preserved : goal.loop-place-preserved
loop-place-preserved g c =
    let old : List ℕ = c.loop-place.nearest.items in let new : List ℕ = c.push.new.self.items in
    let here : ℕ = c.nearest_place.result in let place : ℕ = c.loop-place.place in
    let n : ℕ = c.args.nodes in let asked : List ℕ = c.args.asked.now in
    let pushed = c.in_ok-push.ensures.items in
    let so_far = c.loop-place.invariant in
    let last : get_or new place 0 ≡ here =
    ap (λ (xs : List ℕ). get_or xs place 0) pushed ∙ get_or_push old here 0 place so_far.count in
    let Q : ℕ → Type 0 = λ j. IsNearest n asked j (get_or new j 0) in
    let below : (j : ℕ) → j < place → Q j = λ j l.
    let same : get_or new j 0 ≡ get_or old j 0 =
    ap (λ (xs : List ℕ). get_or xs j 0) pushed ∙ get_or_append_left old (here ∷ []) 0 j (omega (arith, l, so_far.count))
    in
    subst (IsNearest n asked j) (sym same) (so_far.each j l)
    in
    record {
      count = ap (λ (xs : List ℕ). length xs) pushed ∙ length_push old here ∙ ap (λ (k : ℕ). k + 1) so_far.count;
      each = below_more Q place below (subst (IsNearest n asked place) (sym last) c.nearest_place.ensures);
    }
