-- How much of a long line is shown.
use Rattle.std.proofs.Common.{◌≡◌, ℕ, zero, suc, ◌+◌, ◌-◌, ◌<◌, ◌≤◌, List, [], ◌∷◌, ap, arith, get_or, length}
use Rattle.std.proofs.Common.{length-append, take}
use Rattle.std.specs.Prelude.{nat_le, true, false}
use Rattle.std.proofs.lemmas.Bool.Decides.{nat_tests}
use Rattle.ira_view_page.specs.Printable.{shown, shown_byte}
use Rattle.ira_view_page.specs.Quoted.{fitting}

-- i bytes fit, and the next one doesn't
pub fitting_is : (room i : ℕ) (line : List ℕ) → i < length line → length (shown (take i line)) ≤ room
    → room < length (shown (take i line)) + length (shown_byte (get_or line i 0)) → fitting room line ≡ i
fitting_is room i [] within low high = absurd (omega arith)
fitting_is room zero (c ∷ line) within low high =
    let not : nat_le (length (shown_byte c)) room ≡ false = grind (arith, nat_tests) in
    rw not
fitting_is room (suc i) (c ∷ line) within low high =
    let both = length-append (shown_byte c) (shown (take i line)) in
    let fits : nat_le (length (shown_byte c)) room ≡ true = grind (arith, nat_tests) in
    rw fits
    (ap suc (fitting_is (room - length (shown_byte c)) i line (omega arith) (omega (arith, both)) (omega (arith, both))))
