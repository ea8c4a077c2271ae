-- A list at an index: what is before it, the element there, and what is after it.
use Rattle.std.proofs.Common.{◌≡◌, ◌∙◌, ℕ, ◌+◌, List, ◌∷◌, ◌++◌, Some, ap, drop, sym, take}
use Rattle.std.specs.Prelude.{slice_get}
use Rattle.std.proofs.lemmas.List.{take-append-drop}
use Rattle.std.proofs.lemmas.Option.{get_or_from_slice_get, slice_get_within}
use Rattle.ira_event.proofs.Rest.{drop-at}

-- the list is those before an index, the one there, and those after it
pub parts_at : {X : Type 0} (xs : List X) (i : ℕ) (x : X) → slice_get xs i ≡ Some x → take i xs ++ x
    ∷ drop (i + 1) xs ≡ xs
parts_at xs i x at =
    let left = drop-at xs i x x (slice_get_within xs i x at) (sym (get_or_from_slice_get xs i x x at)) in
    ap (λ ys. take i xs ++ ys) (sym left) ∙ take-append-drop i xs
