-- A number that is read is spelled so, and what is spelled so is read.
use Rattle.std.proofs.Common.{◌≡◌, ◌≤◌, ◌<◌, ℕ, ◌+◌, ◌*◌, ◌-◌, ◌&&◌, Bool, true, false, cond, List, [], ◌∷◌, ◌++◌, Some}
use Rattle.std.proofs.Common.{None, refl, sym, ap, subst, ◌∙◌, arith, inl, inr, nat_eq}
use Rattle.std.specs.Char.{is_ascii_digit}
use Rattle.std.proofs.lemmas.Bool.Decides.{nat_tests}
use Rattle.ira_event.specs.Scan.{digits_from, number_at}
use Rattle.std.specs.Str.{all_ascii_digits}
use Rattle.ira_event.specs.Numeral.{value_from, IsNumeral}
use Rattle.ira_event.proofs.Pieces.{Lacks}

pub and_parts : (a b : Bool) → (a && b) ≡ true → (a ≡ true) × (b ≡ true)
and_parts true b h = (refl, h)
and_parts false b h = absurd cc

-- no digit stands at the front
abbrev pub NoDigit : List ℕ → Type 0
NoDigit [] = Unit {0}
NoDigit (c ∷ cs) = is_ascii_digit c ≡ false

-- the digits that were taken from the front
pub record Digits (n : ℕ) (bs : List ℕ) (p : ℕ × List ℕ) : Type 0 where
  pub ds : List ℕ
  pub parts : bs ≡ ds ++ p.1
  pub all : all_ascii_digits ds ≡ true
  pub value : p.0 ≡ value_from n ds
  pub stop : NoDigit p.1

digits-cons : (n c : ℕ) (cs : List ℕ) (b : Bool) → is_ascii_digit c ≡ b
    → Digits (10 * n + (c - 48)) cs (digits_from (10 * n + (c - 48)) cs)
    → Digits n (c ∷ cs) (cond b (digits_from (10 * n + (c - 48)) cs) (n, c ∷ cs))
digits-cons n c cs true e d =
    record { ds = c ∷ d.ds; parts = ap (λ w. c ∷ w) d.parts; all = rw e d.all; value = d.value; stop = d.stop }
digits-cons n c cs false e d = record { ds = []; parts = refl; all = refl; value = refl; stop = e }

pub digits-takes : (n : ℕ) (bs : List ℕ) → Digits n bs (digits_from n bs)
digits-takes n [] = record { ds = []; parts = refl; all = refl; value = refl; stop = tt }
digits-takes n (c ∷ cs) = digits-cons n c cs (is_ascii_digit c) refl (digits-takes (10 * n + (c - 48)) cs)

pub digits-again : (n : ℕ) (ds rest : List ℕ) → all_ascii_digits ds ≡ true → NoDigit rest
    → digits_from n (ds ++ rest) ≡ (value_from n ds, rest)
digits-again n [] [] h s = refl
digits-again n [] (c ∷ cs) h s = rw s refl
digits-again n (d ∷ ds) rest h s =
    let p = and_parts (is_ascii_digit d) (all_ascii_digits ds) h in
    rw p.0 (digits-again (10 * n + (d - 48)) ds rest p.1 s)

-- the number that was taken from the front
pub record Number (bs : List ℕ) (p : ℕ × List ℕ) : Type 0 where
  pub text : List ℕ
  pub parts : bs ≡ text ++ p.1
  pub is : IsNumeral text p.0

pub digit_range : (c : ℕ) → is_ascii_digit c ≡ true → (48 ≤ c) × (c ≤ 57)
digit_range c h = (grind (arith, nat_tests), grind (arith, nat_tests))

number-cons : (c : ℕ) (cs : List ℕ) (p : ℕ × List ℕ) (z d : Bool) → nat_eq c 48 ≡ z → is_ascii_digit c ≡ d
    → cond z (Some (0, cs)) (cond d (Some (digits_from (c - 48) cs)) None) ≡ Some p → Number (c ∷ cs) p
number-cons c cs p true d ez ed e =
    let q : (0, cs) ≡ p = cc in
    let is_zero : c ≡ 48 = grind (arith, nat_tests) in
    subst (Number (c ∷ cs)) q (record { text = c ∷ []; parts = refl; is = inl (is_zero, refl, refl) })
number-cons c cs p false true ez ed e =
    let q : digits_from (c - 48) cs ≡ p = cc in
    let range = digit_range c ed in
    let above : 49 ≤ c = grind (arith, nat_tests) in
    let t = digits-takes (c - 48) cs in
    subst (Number (c ∷ cs)) q (record {
      text = c ∷ t.ds;
      parts = ap (λ w. c ∷ w) t.parts;
      is = inr (above, range.1, t.all, t.value);
    })
number-cons c cs p false false ez ed e = absurd cc

pub number-takes : (bs : List ℕ) (p : ℕ × List ℕ) → number_at bs ≡ Some p → Number bs p
number-takes [] p e = absurd cc
number-takes (c ∷ cs) p e = number-cons c cs p (nat_eq c 48) (is_ascii_digit c) refl refl e

pub number-again : (text : List ℕ) (n : ℕ) (rest : List ℕ) → IsNumeral text n → NoDigit rest
    → number_at (text ++ rest) ≡ Some (n, rest)
number-again [] n rest h s = absurd h
number-again (c ∷ cs) n rest (inl h) s = rw (h.0, h.1, h.2) refl
number-again (c ∷ cs) n rest (inr h) s =
    let not_zero : nat_eq c 48 ≡ false = grind (arith, nat_tests, h.0) in
    let digit : is_ascii_digit c ≡ true = grind (arith, nat_tests, h.0, h.1) in
    rw (not_zero, digit, h.3) (ap Some (digits-again (c - 48) cs rest h.2 s))

-- a numeral spells one number
pub numeral_same : (text : List ℕ) (m n : ℕ) → IsNumeral text m → IsNumeral text n → m ≡ n
numeral_same [] m n h k = absurd h
numeral_same (c ∷ cs) m n (inl h) (inl k) = h.2 ∙ sym k.2
numeral_same (c ∷ cs) m n (inl h) (inr k) = absurd (omega (arith, h.0, k.0))
numeral_same (c ∷ cs) m n (inr h) (inl k) = absurd (omega (arith, h.0, k.0))
numeral_same (c ∷ cs) m n (inr h) (inr k) = h.3 ∙ sym k.3

-- a byte below the digits
not_below : (d c : ℕ) → is_ascii_digit d ≡ true → c < 48 → nat_eq d c ≡ false
not_below d c h k = grind (arith, nat_tests)

at_least : (d c : ℕ) → 48 ≤ d → c < 48 → nat_eq d c ≡ false
at_least d c h k = grind (arith, nat_tests)

Lacks-digits : (c : ℕ) (ds : List ℕ) → c < 48 → all_ascii_digits ds ≡ true → Lacks c ds
Lacks-digits c [] k h = refl
Lacks-digits c (d ∷ ds) k h = let p = and_parts (is_ascii_digit d) (all_ascii_digits ds) h in
    rw (not_below d c p.0 k) (Lacks-digits c ds k p.1)

-- no separator stands in a numeral
pub Lacks-numeral : (c : ℕ) (text : List ℕ) (n : ℕ) → c < 48 → IsNumeral text n → Lacks c text
Lacks-numeral c [] n k h = absurd h
Lacks-numeral c (d ∷ ds) n k (inl h) = let first : 48 ≤ d = omega (arith, h.0) in rw (at_least d c first k, h.1) refl
Lacks-numeral c (d ∷ ds) n k (inr h) = let first : 48 ≤ d = omega (arith, h.0) in
    rw (at_least d c first k) (Lacks-digits c ds k h.2)
