-- The words of a reason are printable.
use Rattle.std.proofs.Common.{◌≡◌, ◌||◌, ◌%◌, ◌/◌, ◌<◌, ◌∷◌, [], ℕ, List, arith, false, nat_eq, refl, suc, true, zero}
use Rattle.std.specs.Prelude.{decimal}
use Rattle.std.specs.Fmt.{digit_glyph, digits, digits_onto}
use Rattle.std.proofs.lemmas.List.Folds.{list_all-append}
use Rattle.std.proofs.lemmas.Bool.Decides.{nat_tests}
use Rattle.ira_view_page.specs.Printable.{IsPrintable, is_graphic}
use Rattle.ira_audit.specs.Report.{reason_words}
use Rattle.ira_audit.specs.declared.reason.Reason.{Reason}

printable_digit : (d : ℕ) → d < 10 → is_graphic (digit_glyph false d) || nat_eq (digit_glyph false d) 10 ≡ true
printable_digit d small = grind (arith, nat_tests)

printable_digits : (k n : ℕ) (after : List ℕ) → IsPrintable after → IsPrintable (digits_onto k 10 false n after)
printable_digits zero n after is = is
printable_digits (suc k) n after is =
    grind (arith, printable_digit (n % 10), printable_digits k (n / 10) (digit_glyph false (n % 10) ∷ after))

printable_number : (n : ℕ) → IsPrintable (decimal n)
unfolding digits
printable_number n = printable_digits 64 n [] refl

pub printable_reason : (reason : Reason) → IsPrintable (reason_words reason)
printable_reason reason = grind (arith, printable_number, list_all-append)
