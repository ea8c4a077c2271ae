-- Numbers that are read digit by digit, and kept as one value from the limit on.
use Rattle.std.proofs.Common.{◌≡◌, ◌<◌, ℕ, ◌+◌, ◌*◌, ◌-◌, true, false, List, [], ◌∷◌, length, drop, slice_index_or}
use Rattle.std.proofs.Common.{refl, sym, ap, ◌∙◌, cond, arith}
use Rattle.std.specs.Char.{is_ascii_digit}
use Rattle.ira_event.specs.Scan.{digits_from, kept}
use Rattle.ira_event.proofs.Rest.{drop-at}

-- one more digit on two numbers that are kept as one
pub kept-digit : (m n d : ℕ) → kept m ≡ kept n → kept (10 * m + d) ≡ kept (10 * n + d)
kept-digit m n d e = omega arith

-- what follows the digits doesn't depend on the number before them
pub digits_from-rest : (m n : ℕ) (cs : List ℕ) → (digits_from m cs).1 ≡ (digits_from n cs).1
digits_from-rest m n [] = refl
digits_from-rest m n (c ∷ cs) =
    elim (is_ascii_digit c) as (λ b. (cond b (digits_from (10 * m + (c - 48)) cs) (m, c ∷ cs)).1
    ≡ (cond b (digits_from (10 * n + (c - 48)) cs) (n, c ∷ cs)).1)
    [ true ↦ digits_from-rest (10 * m + (c - 48)) (10 * n + (c - 48)) cs | false ↦ refl ]

-- numbers that are kept as one go on to numbers that are
pub digits_from-kept : (m n : ℕ) (cs : List ℕ) → kept m ≡ kept n → kept (digits_from m cs).0 ≡ kept (digits_from n cs).0
digits_from-kept m n [] e = e
digits_from-kept m n (c ∷ cs) e =
    elim (is_ascii_digit c) as (λ b. kept (cond b (digits_from (10 * m + (c - 48)) cs) (m, c ∷ cs)).0
    ≡ kept (cond b (digits_from (10 * n + (c - 48)) cs) (n, c ∷ cs)).0)
    [ true ↦ digits_from-kept (10 * m + (c - 48)) (10 * n + (c - 48)) cs (kept-digit m n (c - 48) e) | false ↦ e ]

digit-kept : (v w c : ℕ) (cs : List ℕ) → is_ascii_digit c ≡ true → kept w ≡ kept (10 * v + (c - 48))
    → kept (digits_from w cs).0 ≡ kept (digits_from v (c ∷ cs)).0
digit-kept v w c cs digit e = rw digit (digits_from-kept w (10 * v + (c - 48)) cs e)

digit-rest : (v w c : ℕ) (cs : List ℕ) → is_ascii_digit c ≡ true → (digits_from w cs).1 ≡ (digits_from v (c ∷ cs)).1
digit-rest v w c cs digit = rw digit (digits_from-rest w (10 * v + (c - 48)) cs)

-- one turn: what the kept number and the rest go on to is what the number and the digits before did
pub digit-turn : (text : List ℕ) (i v w : ℕ) → i < length text → is_ascii_digit (slice_index_or text i 0) ≡ true
    → kept w ≡ kept (10 * v + (slice_index_or text i 0 - 48))
    → (kept (digits_from w (drop (i + 1) text)).0 ≡ kept (digits_from v (drop i text)).0)
    × ((digits_from w (drop (i + 1) text)).1 ≡ (digits_from v (drop i text)).1)
digit-turn text i v w there digit next =
    let d = slice_index_or text i 0 in
    let cs = drop (i + 1) text in
    let cons : drop i text ≡ d ∷ cs = drop-at text i d 0 there refl in (
      digit-kept v w d cs digit next ∙ ap (λ xs. kept (digits_from v xs).0) (sym cons),
      digit-rest v w d cs digit ∙ ap (λ xs. (digits_from v xs).1) (sym cons),
    )
