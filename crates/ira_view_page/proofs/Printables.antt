-- Printable ASCII is text; numbers are printable.
use Rattle.std.proofs.Common.{◌≡◌, ℕ, zero, suc, ◌+◌, ◌<◌, ◌^◌, true, List, [], ◌∷◌, ◌++◌, ◌||◌, ◌∙◌}
use Rattle.std.proofs.Common.{arith, decimal, get_or, map, nat_eq, refl}
use Rattle.std.specs.Int.Digits.{AllBelowBase, digits_of}
use Rattle.std.specs.Str.{IsUtf8}
use Rattle.std.proofs.lemmas.Bool.Decides.{nat_tests}
use Rattle.std.proofs.lemmas.Fmt.{decimal_digit, decimal-digits_of}
use Rattle.std.proofs.lemmas.Int.Digits.{all_below_base_digits_of}
use Rattle.std.proofs.lemmas.List.Folds.{list_all-append}
use Rattle.std.proofs.lemmas.Str.{IsUtf8-from_ascii}
use Rattle.ira_event.proofs.Numerals.{and_parts}
use Rattle.ira_view_page.specs.Printable.{IsPrintable, is_graphic}

small : (c : ℕ) → is_graphic c || nat_eq c 10 ≡ true → c < 128
small c is = grind (arith, nat_tests)

ascii : (text : List ℕ) → IsPrintable text → (i : ℕ) → get_or text i 0 < 128
ascii [] are i = omega arith
ascii (c ∷ text) are zero = small c (and_parts (is_graphic c || nat_eq c 10) _ are).0
ascii (c ∷ text) are (suc i) = ascii text (and_parts (is_graphic c || nat_eq c 10) _ are).1 i

pub printable_is_text : (text : List ℕ) → IsPrintable text → IsUtf8 text
printable_is_text text are = IsUtf8-from_ascii text (ascii text are)

pub printable_append : (a b : List ℕ) → IsPrintable a → IsPrintable b → IsPrintable (a ++ b)
printable_append a b p q = list_all-append (λ c. is_graphic c || nat_eq c 10) a b ∙ rw p q

printable_digits : (ds : List ℕ) → AllBelowBase 10 ds → IsPrintable (map (λ d. 48 + d) ds)
printable_digits [] all = refl
printable_digits (d ∷ ds) all =
    let below : d < 10 = all.0 in
    let here : is_graphic (48 + d) || nat_eq (48 + d) 10 ≡ true = grind (arith, nat_tests) in
    let rest = printable_digits ds all.1 in
    rw here rest

pub printable_decimal : (n : ℕ) → n < 2 ^ 64 → IsPrintable (decimal n)
printable_decimal zero l = rw (decimal_digit 0 (omega arith)) refl
printable_decimal (suc n) l =
    rw (decimal-digits_of (suc n) (omega arith) l)
    (printable_digits (digits_of 10 (suc n)) (all_below_base_digits_of 10 (suc n) (omega arith)))
