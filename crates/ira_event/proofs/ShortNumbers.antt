-- A number of a few digits that is read digit by digit is the one that stands there.
use Rattle.std.proofs.Common.{◌≡◌, ◌≤◌, ◌<◌, ℕ, ◌+◌, ◌*◌, ◌-◌, ◌^◌, suc, Bool, true, false, List, ◌∷◌, length, drop}
use Rattle.std.proofs.Common.{slice_index_or, Some, refl, sym, ap, ◌∙◌, arith, nat_eq}
use Rattle.std.specs.Char.{is_ascii_digit}
use Rattle.std.proofs.Math.Nat.{pow-le-pow_right, pow-succ'}
use Rattle.std.proofs.lemmas.Bool.Decides.{nat_tests}
use Rattle.std.specs.Prelude.{codes}
use Rattle.ira_event.specs.LogScan.{bit_at, message_at, number_line}
use Rattle.ira_event.specs.Scan.{digits_from, kept, kept_at, after_word}
use Rattle.ira_event.proofs.Rest.{drop-at}

-- one more digit
pub power-turn : (v d i : ℕ) → v < 10 ^ i → d ≤ 9 → 10 * v + d < 10 ^ (i + 1)
power-turn v d i small digit =
    let next : i + 1 ≡ suc i = omega arith in
    let power : 10 ^ (i + 1) ≡ 10 * 10 ^ i = ap (λ n. 10 ^ n) next ∙ pow-succ' 10 i in
    omega (arith, power, small, digit)

-- a number of at most six digits
pub six-digits : (v i : ℕ) → v < 10 ^ i → i ≤ 6 → v < 1000000
six-digits v i small few =
    let most : 10 ^ i ≤ 10 ^ 6 = pow-le-pow_right (omega arith) few in
    omega (arith, most, small)

-- a digit, and those after it
pub digits-turn : (text : List ℕ) (i next v : ℕ) → next ≡ i + 1 → i < length text
    → is_ascii_digit (slice_index_or text i 0) ≡ true
    → digits_from (10 * v + (slice_index_or text i 0 - 48)) (drop next text) ≡ digits_from v (drop i text)
digits-turn text i next v is there digit =
    let d = slice_index_or text i 0 in
    let cons : drop i text ≡ d ∷ drop (i + 1) text = drop-at text i d 0 there refl in
    let turn : digits_from v (d ∷ drop (i + 1) text) ≡ digits_from (10 * v + (d - 48)) (drop (i + 1) text) =
    rw digit refl in
    ap (λ n. digits_from (10 * v + (d - 48)) (drop n text)) is ∙ sym (ap (digits_from v) cons ∙ turn)

-- no digit
pub digits-end : (text : List ℕ) (i v : ℕ) → i < length text → is_ascii_digit (slice_index_or text i 0) ≡ false
    → digits_from v (drop i text) ≡ (v, drop i text)
digits-end text i v there other =
    let d = slice_index_or text i 0 in
    let cons : drop i text ≡ d ∷ drop (i + 1) text = drop-at text i d 0 there refl in
    let stop : digits_from v (d ∷ drop (i + 1) text) ≡ (v, d ∷ drop (i + 1) text) = rw other refl in
    ap (digits_from v) cons ∙ stop ∙ ap (λ xs. (v, xs)) (sym cons)

-- the number whose digits were read from the first one on
pub number-there : (text : List ℕ) (start end v : ℕ) → start < length text → 49 ≤ slice_index_or text start 0
    → slice_index_or text start 0 ≤ 57 → v < 1000000
    → digits_from (slice_index_or text start 0 - 48) (drop (start + 1) text) ≡ (v, drop end text)
    → kept_at (drop start text) ≡ Some (v, drop end text)
number-there text start end v there above below small digits =
    let d = slice_index_or text start 0 in
    let cons : drop start text ≡ d ∷ drop (start + 1) text = drop-at text start d 0 there refl in
    let not_zero : nat_eq d 48 ≡ false = grind (arith, nat_tests, above) in
    let digit : is_ascii_digit d ≡ true = grind (arith, nat_tests, above, below) in
    let as_read : kept v ≡ v = omega (arith, small) in
    let first : kept_at (d ∷ drop (start + 1) text) ≡ Some (kept v, drop end text) =
    rw (not_zero, digit, digits) refl in
    ap kept_at cons ∙ first ∙ ap (λ n. Some (n, drop end text)) as_read

-- the space that stands there
pub space-there : (text : List ℕ) (i : ℕ) → i < length text → slice_index_or text i 0 ≡ 32
    → after_word (codes " ") (drop i text) ≡ Some (drop (i + 1) text)
space-there text i there space =
    let cons : drop i text ≡ 32 ∷ drop (i + 1) text = drop-at text i 32 0 there (sym space) in
    ap (after_word (codes " ")) cons ∙ refl

-- a number to its line's end
pub number-line-there : (text : List ℕ) (end n : ℕ) (rest : List ℕ) → kept_at text ≡ Some (n, drop end text)
    → after_word (codes "\n") (drop end text) ≡ Some rest → number_line text ≡ Some (n, rest)
number-line-there text end n rest number feed = rw (number, feed) refl

-- a message of three numbers, each where the one before it ends
pub message-there : (text : List ℕ) (a b c round id hop : ℕ) (dirty : Bool) (rest : List ℕ)
    → kept_at text ≡ Some (round, drop a text) → after_word (codes " ") (drop a text) ≡ Some (drop (a + 1) text)
    → kept_at (drop (a + 1) text) ≡ Some (id, drop b text)
    → after_word (codes " ") (drop b text) ≡ Some (drop (b + 1) text)
    → kept_at (drop (b + 1) text) ≡ Some (hop, drop c text)
    → bit_at (drop c text) ≡ Some (dirty, rest)
    → message_at text ≡ Some (record { round = round; id = id; hop = hop; dirty = dirty }, rest)
unfolding message_at
message-there text a b c round id hop dirty rest first one second two third bit =
    rw (first, one, second, two, third, bit) refl
