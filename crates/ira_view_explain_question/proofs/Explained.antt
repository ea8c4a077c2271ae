-- The cases that are explained, one after the other.
use Rattle.std.proofs.Common.{◌≡◌, ◌<◌, ◌+◌, ◌++◌, ◌∷◌, ℕ, List, [], All, get_or, length, subst, sym, take}
use Rattle.std.proofs.Common.{append_assoc, Err, IfOk, Ok, Option, Result, Some, refl}
use Rattle.std.specs.List.{AllZip}
use Rattle.ira_view_page.proofs.Adding.{◌&◌, holds}
use Rattle.ira_view_page.specs.Page.{Added, AddedSome}
use Rattle.std.proofs.lemmas.List.{take_more}
use Rattle.std.proofs.lemmas.List.Elements.{All-take}
use Rattle.ira_audit.proofs.Zipped.{zipped_more}

-- what follows from facts of what was made
pub all_ok : {X E : Type 0} (P Q R S : X → Type 0) (r : Result X E) → ((x : X) → P x → Q x → R x → S x) → IfOk r P
    → IfOk r Q → IfOk r R → IfOk r S
all_ok P Q R S (Ok x) so p q s = so x p q s
all_ok P Q R S (Err e) so p q s = tt

pub four_ok : {X E : Type 0} (P Q R S T : X → Type 0) (r : Result X E) → ((x : X) → P x → Q x → R x → S x → T x)
    → IfOk r P → IfOk r Q → IfOk r R → IfOk r S → IfOk r T
four_ok P Q R S T (Ok x) so p q s t = so x p q s t
four_ok P Q R S T (Err e) so p q s t = tt

-- what a page has that begins with these
pub page_is : (all x : List ℕ) (page : Option (List ℕ)) → Added (Some []) x page → AddedSome page (Some all)
    → (more : List ℕ) × (all ≡ x ++ more)
page_is all x page front rest = (rest.0, holds all refl (front & rest.1) refl)

-- each of the first numbers is below the end, where all are
pub listed_within : (numbers chosen : List ℕ) (m i end : ℕ) → numbers ≡ chosen → All (λ n. n < end) chosen
    → i < length (take m numbers) → get_or (take m numbers) i 0 < end
listed_within numbers chosen m i end same within here =
    All-take (λ n. n < end) m numbers (subst (All (λ n. n < end)) (sym same) within) i 0 here

-- a number more, and what is tied to it
pub zipped_next : {Y : Type 0} (R : ℕ → Y → Type 0) (xs : List ℕ) (i : ℕ) (y : Y) (ys : List Y) → i < length xs
    → AllZip R (take i xs) ys → R (get_or xs i 0) y → AllZip R (take (i + 1) xs) (ys ++ y ∷ [])
zipped_next {Y} R xs i y ys here so_far next =
    subst (λ (zs : List ℕ). AllZip R zs (ys ++ y ∷ [])) (sym (take_more xs i 0 here))
    (zipped_more R (take i xs) ys (get_or xs i 0) y so_far next)

pub regrouped : (a b c : List ℕ) → (a ++ b) ++ c ≡ a ++ (b ++ c)
regrouped a b c = simp append_assoc
