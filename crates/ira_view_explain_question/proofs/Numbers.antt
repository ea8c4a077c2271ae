-- Numbers of cases, one more at a time.
use Rattle.std.proofs.Common.{◌≡◌, ◌∙◌, ℕ, zero, suc, ◌+◌, Bool, false, List, [], ◌∷◌, ◌++◌, Some, ap, arith, refl}
use Rattle.std.specs.Prelude.{filter, if◌then◌else◌, slice_get}
use Rattle.std.specs.Option.{option_map_or}
use Rattle.std.specs.List.{range_with_len}
use Rattle.std.proofs.lemmas.List.Elements.{filter-append}
use Rattle.ira_elim.specs.declared.found.Found.{Found}
use Rattle.ira_audit.specs.Findings.{is_present}
use Rattle.ira_view_explain_question.specs.ChosenCases.{is_present_at}

range_more_from : (a n : ℕ) → range_with_len a (suc n) ≡ range_with_len a n ++ (a + n) ∷ []
range_more_from a zero = (let e : a + 0 ≡ a = omega arith in rw e refl)
range_more_from a (suc n) =
    let e : a + 1 + n ≡ a + suc n = omega arith in
    ap (λ xs. a ∷ xs) (range_more_from (a + 1) n ∙ ap (λ k. range_with_len (a + 1) n ++ k ∷ []) e)

-- one number more
pub range_more : (n : ℕ) → range_with_len 0 (n + 1) ≡ range_with_len 0 n ++ n ∷ []
range_more n =
    let s : n + 1 ≡ suc n = omega arith in
    let z : 0 + n ≡ n = omega arith in
    ap (λ k. range_with_len 0 k) s ∙ range_more_from 0 n ∙ ap (λ k. range_with_len 0 n ++ k ∷ []) z

-- those that pass a test
filtered_more : (p : ℕ → Bool) (n : ℕ)
    → filter p (range_with_len 0 (n + 1)) ≡ filter p (range_with_len 0 n) ++ filter p (n ∷ [])
filtered_more p n = ap (filter p) (range_more n) ∙ filter-append p (range_with_len 0 n) (n ∷ [])

-- the number of a case that was found present, or no number
pub present_more : {A : Type 0} (found : List (Found A)) (n : ℕ) (f : Found A) (numbers : List ℕ)
    → slice_get found n ≡ Some f → numbers ≡ filter (is_present_at found) (range_with_len 0 n)
    → numbers ++ (if is_present f then n ∷ [] else []) ≡ filter (is_present_at found) (range_with_len 0 (n + 1))
present_more found n f numbers at are =
    let test : is_present_at found n ≡ is_present f = ap (λ o. option_map_or is_present o false) at in
    rw (are, filtered_more (is_present_at found) n, test) refl
