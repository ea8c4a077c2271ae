-- Loads that are taken one by one out of others.
use Rattle.std.proofs.Common.{◌≡◌, ◌<◌, ◌+◌, ◌++◌, ◌∷◌, ℕ, List, [], get_or, length, subst, suc, sym, take, arith}
use Rattle.std.proofs.Math.Seq.{take-suc}
use Rattle.std.specs.List.{remove}
use Rattle.std.specs.List.Sorted.{IsPermutation}
use Rattle.std.proofs.lemmas.List.Sorted.{IsPermutation-more}
use Rattle.ira_event.specs.declared.load.Load.{Load}

-- the next load is one of those that are left
pub one_more : (loads others left seen after : List Load) (i at : ℕ) (d : Load) → seen ≡ left → at < length seen
    → get_or others i d ≡ get_or seen at (get_or others i d) → after ≡ remove left at → i < length others
    → IsPermutation loads (take i others ++ left) → IsPermutation loads (take (i + 1) others ++ after)
one_more loads others left seen after i at d same lt is rest within h =
    let load : Load = get_or others i d in
    let more : IsPermutation loads ((take i others ++ load ∷ []) ++ remove left at) =
    IsPermutation-more loads (take i others) left at load (subst (λ l. at < length l) same lt)
    (subst (λ l. load ≡ get_or l at load) same is) h in
    let one : suc i ≡ i + 1 = omega arith in
    let taken : take (i + 1) others ≡ take i others ++ load ∷ [] =
    subst (λ k. take k others ≡ take i others ++ load ∷ []) one (take-suc others i d within) in
    let Q : List Load → List Load → Type 0 = λ done left. IsPermutation loads (done ++ left) in
    subst (λ l. Q (take (i + 1) others) l) (sym rest) (subst (λ done. Q done (remove left at)) (sym taken) more)
