-- A set of pairs has its least one, and changes by one pair alone.
use Rattle.std.proofs.Common.{◌≡◌, ◌≢◌, ℕ, ◌+◌, ◌*◌, ◌/◌, ◌%◌, ◌^◌, ◌<◌, ◌↔◌, ◌⊎◌, inl, inr, List, length, get_or, set}
use Rattle.std.proofs.Common.{sum, bit_and, bit_or, w64, sym, ap, ◌∙◌, arith, replicate, length-set}
use Rattle.std.proofs.Common.{get_or-set_same, get_or-set_other, subst}
use Rattle.std.specs.Int.{bit_at, bit_not, trailing_zeros}
use Rattle.std.proofs.lemmas.Bool.{cases_eq, cases_lt}
use Rattle.std.proofs.lemmas.List.{get_or-replicate, get_or_past, length-replicate}
use Rattle.std.proofs.lemmas.List.Sums.{sum_by-set}
use Rattle.std.proofs.lemmas.Nat.{and_le_l}
use Rattle.std.proofs.lemmas.Nat.Bits.{bit_at-zero, bit_at-trailing_zeros, bit_at_set_same, bit_at_set_other}
use Rattle.std.proofs.lemmas.Nat.Bits.{bit_at_clear_same, bit_at_clear_other}
use Rattle.ira_elim.specs.PairSet.{HasBit, word_of, Has, AreWords}

-- a number with a bit isn't 0
not_zero : (n b : ℕ) → bit_at n b ≡ 1 → 0 < n
not_zero n b e = elim (cases_eq n 0) [
  | inl zero ↦ absurd (let none : bit_at n b ≡ 0 = ap (λ (k : ℕ). bit_at k b) zero ∙ bit_at-zero b in
      omega (arith, e, none))
  | inr some ↦ omega (arith, some)
]

-- ---- a pair, and its bit

pub word_below : (a b : ℕ) → a < 256 → b < 256 → word_of a b < 1024
word_below a b within small = omega (arith, within, small)

pub bit_below : (b : ℕ) → b % 64 < 64
bit_below b = omega arith

-- the pair of a bit
pair_of : (w r : ℕ) → w < 1024 → r < 64 → (w / 4 < 256) × (64 * (w % 4) + r < 256)
    × (word_of (w / 4) (64 * (w % 4) + r) ≡ w) × ((64 * (w % 4) + r) % 64 ≡ r)
pair_of w r below small = (omega (arith, below), omega (arith, small), omega (arith, small), omega (arith, small))

same_pair : (a b c d : ℕ) → b < 256 → d < 256 → word_of c d ≡ word_of a b → d % 64 ≡ b % 64 → (c ≡ a) × (d ≡ b)
same_pair a b c d small l word bit = (omega (arith, small, l, word), omega (arith, small, l, word, bit))

other_pair : (a b c d : ℕ) → b < 256 → d < 256 → ¬ ((c ≡ a) × (d ≡ b))
    → ¬ ((word_of c d ≡ word_of a b) × (d % 64 ≡ b % 64))
other_pair a b c d small l apart h = apart (same_pair a b c d small l h.0 h.1)

-- whether two pairs of numbers are one
this_or_other : (a b c d : ℕ) → ((c ≡ a) × (d ≡ b)) ⊎ ¬ ((c ≡ a) × (d ≡ b))
this_or_other a b c d = elim (cases_eq c a) [
  | inl same ↦ elim (cases_eq d b) [
    | inl e ↦ inl (same, e)
    | inr other ↦ inr (λ h. other h.1)
  ]
  | inr other ↦ inr (λ h. other h.0)
]

-- ---- no word has a bit

zeros : (n : ℕ) (words : List ℕ) (w : ℕ) → words ≡ replicate n 0 → get_or words w 0 ≡ 0
zeros n words w are = elim (cases_lt w n) [
  | inl low ↦ ap (λ (ws : List ℕ). get_or ws w 0) are ∙ get_or-replicate n w 0 0 low
  | inr past ↦ get_or_past words w 0 (omega (
    arith,
    past,
    ap (λ (ws : List ℕ). length ws) are,
    length-replicate {A = ℕ} n 0,
  ))
]

pub no_words : (words filled : List ℕ) → words ≡ replicate 1024 0 → filled ≡ replicate 16 0 → AreWords words filled
no_words words filled none nothing = record {
  places = ap (λ (ws : List ℕ). length ws) none ∙ length-replicate {A = ℕ} 1024 0;
  summary = ap (λ (ws : List ℕ). length ws) nothing ∙ length-replicate {A = ℕ} 16 0;
  bits = λ w l. (
    λ bit. absurd (let off : bit_at (get_or filled (w / 64) 0) (w % 64)
        ≡ 0 = ap (λ (k : ℕ). bit_at k (w % 64)) (zeros 16 filled (w / 64) nothing) ∙ bit_at-zero (w % 64) in
        omega (arith, bit, off)),
    λ some. absurd (omega (arith, some, zeros 1024 words w none)),
  );
}

pub no_pairs : (words : List ℕ) → words ≡ replicate 1024 0 → (a b : ℕ) → ¬ (Has words a b)
no_pairs words none a b has =
    let off : bit_at (get_or words (word_of a b) 0) (b % 64) ≡ 0 =
    ap (λ (k : ℕ). bit_at k (b % 64)) (zeros 1024 words (word_of a b) none) ∙ bit_at-zero (b % 64) in
    omega (arith, has.2.2, off)

-- ---- the words

module _ (words filled : List ℕ) (are : AreWords words filled) where
  -- the first bit of a word that has one
  pub least : (i f w word : ℕ) → i < 16 → f ≡ get_or filled i 0 → w ≡ 64 * i + trailing_zeros w64 f
      → word ≡ get_or words w 0 → 0 < f → f < 2 ^ 64 → word < 2 ^ 64
      → Has words (w / 4) (64 * (w % 4) + trailing_zeros w64 word)
  least i f w word few is place there some fits word_fits =
      let first = bit_at-trailing_zeros w64 f some fits in
      let below : w < 1024 = omega (arith, few, place, first.0) in
      let at : w / 64 ≡ i = omega (arith, place, first.0) in
      let rest : w % 64 ≡ trailing_zeros w64 f = omega (arith, place, first.0) in
      let bit : bit_at (get_or filled (w / 64) 0) (w % 64) ≡ 1 =
      ap (λ (k : ℕ). bit_at (get_or filled k 0) (w % 64)) at ∙ ap (bit_at (get_or filled i 0)) rest
      ∙ ap (λ (n : ℕ). bit_at n (trailing_zeros w64 f)) (sym is) ∙ first.1 in
      let second = bit_at-trailing_zeros w64 word (omega (arith, there, (are.bits w below).0 bit)) word_fits in
      let r = trailing_zeros w64 word in
      let p = pair_of w r below second.0 in
      let here : bit_at (get_or words w 0) r ≡ 1 = ap (λ (n : ℕ). bit_at n r) (sym there) ∙ second.1 in
      let P : ℕ × ℕ → Type 0 = λ z. HasBit words z.0 z.1 in
      (p.0, p.1, subst P (λ j. (sym p.2 j, sym p.3 j)) (below, second.0, here))

  module _ (w r : ℕ) (within : w < 1024) (small : r < 64) where
    in_words : w < length words
    in_words = omega (arith, within, are.places)

    in_filled : w / 64 < length filled
    in_filled = omega (arith, within, are.summary)

    module _ (word : ℕ) where
      here : get_or (set words w word) w 0 ≡ word
      here = get_or-set_same words w word 0 in_words

      -- a word that keeps its other bits keeps all other bits
      others : ((d : ℕ) → d < 64 → d ≢ r → bit_at word d ≡ bit_at (get_or words w 0) d) → (c d : ℕ) → d < 64
          → ¬ ((c ≡ w) × (d ≡ r)) → bit_at (get_or (set words w word) c 0) d ≡ bit_at (get_or words c 0) d
      others kept c d l apart = elim (cases_eq c w) [
        | inl same ↦
            ap (λ (k : ℕ). bit_at (get_or (set words w word) k 0) d) same ∙ ap (λ (n : ℕ). bit_at n d) here
            ∙ kept d l (λ e. apart (same, e)) ∙ ap (λ (k : ℕ). bit_at (get_or words k 0) d) (sym same)
        | inr other ↦ ap (λ (n : ℕ). bit_at n d) (get_or-set_other words w c word 0 other)
      ]

      word_kept : (c : ℕ) → c ≢ w → get_or (set words w word) c 0 ≡ get_or words c 0
      word_kept c other = get_or-set_other words w c word 0 other

    -- a summary in which the bit of this word alone changes
    module _ (member : ℕ) (kept : (d : ℕ) → d < 64 → d ≢ w % 64
        → bit_at member d ≡ bit_at (get_or filled (w / 64) 0) d) where
      summary_here : bit_at (get_or (set filled (w / 64) member) (w / 64) 0) (w % 64) ≡ bit_at member (w % 64)
      summary_here = ap (λ (n : ℕ). bit_at n (w % 64)) (get_or-set_same filled (w / 64) member 0 in_filled)

      summary_kept : (c : ℕ) → c ≢ w → bit_at (get_or (set filled (w / 64) member) (c / 64) 0) (c % 64)
          ≡ bit_at (get_or filled (c / 64) 0) (c % 64)
      summary_kept c other = elim (cases_eq (c / 64) (w / 64)) [
        | inr apart ↦ ap (λ (n : ℕ). bit_at n (c % 64)) (get_or-set_other filled (w / 64) (c / 64) member 0 apart)
        | inl same ↦
            let differs : c % 64 ≢ w % 64 = λ e. other (omega (arith, same, e)) in
            ap (λ (k : ℕ). bit_at (get_or (set filled (w / 64) member) k 0) (c % 64)) same
            ∙ ap (λ (n : ℕ). bit_at n (c % 64)) (get_or-set_same filled (w / 64) member 0 in_filled)
            ∙ kept (c % 64) (omega arith) differs ∙ ap (λ (k : ℕ). bit_at (get_or filled k 0) (c % 64)) (sym same)
      ]

    abbrev with_bit : ℕ
    with_bit = bit_or (get_or words w 0) (1 * 2 ^ r % 2 ^ 64)

    with_has : bit_at (get_or (set words w with_bit) w 0) r ≡ 1
    with_has = ap (λ (n : ℕ). bit_at n r) (here with_bit) ∙ bit_at_set_same w64 (get_or words w 0) r small

    with_kept : (c d : ℕ) → d < 64 → ¬ ((c ≡ w) × (d ≡ r))
        → bit_at (get_or (set words w with_bit) c 0) d ≡ bit_at (get_or words c 0) d
    with_kept = others with_bit (λ d l other. bit_at_set_other w64 (get_or words w 0) r small d other)

    abbrev with_filled : ℕ
    with_filled = bit_or (get_or filled (w / 64) 0) (1 * 2 ^ (w % 64) % 2 ^ 64)

    -- a word that is not 0 stands where its bit is set
    pub one_more-words : AreWords (set words w with_bit) (set filled (w / 64) with_filled)
    one_more-words =
        let kept : (d : ℕ) → d < 64 → d ≢ w % 64 → bit_at with_filled d ≡ bit_at (get_or filled (w / 64) 0) d =
        λ d l other. bit_at_set_other w64 (get_or filled (w / 64) 0) (w % 64) (omega arith) d other in
        record {
          places = length-set words w with_bit ∙ are.places;
          summary = length-set filled (w / 64) with_filled ∙ are.summary;
          bits = λ c l. elim (cases_eq c w) [
            | inl same ↦ (
              λ bit. (let row : 0 < get_or (set words w with_bit) w 0 = not_zero (get_or (set words w with_bit) w 0) r
                  with_has in omega (arith, row, ap (λ (k : ℕ). get_or (set words w with_bit) k 0) same)),
              λ row. ap (λ (k : ℕ). bit_at (get_or (set filled (w / 64) with_filled) (k / 64) 0) (k % 64)) same
                  ∙ summary_here with_filled kept
                  ∙ bit_at_set_same w64 (get_or filled (w / 64) 0) (w % 64) (omega arith),
            )
            | inr other ↦
                let bits = summary_kept with_filled kept c other in
                let row : get_or (set words w with_bit) c 0 ≡ get_or words c 0 = word_kept with_bit c other in (
                  λ bit. omega (arith, row, (are.bits c l).0 (sym bits ∙ bit)),
                  λ some. bits ∙ (are.bits c l).1 (omega (arith, row, some)),
                )
          ];
        }

    abbrev without_bit : ℕ
    without_bit = bit_and (get_or words w 0) (bit_not w64 (1 * 2 ^ r % 2 ^ 64))

    without_kept : (c d : ℕ) → d < 64 → ¬ ((c ≡ w) × (d ≡ r))
        → bit_at (get_or (set words w without_bit) c 0) d ≡ bit_at (get_or words c 0) d
    without_kept = others without_bit (λ d l other. bit_at_clear_other w64 (get_or words w 0) r small d l other)

    without_gone : bit_at (get_or (set words w without_bit) w 0) r ≡ 0
    without_gone = ap (λ (n : ℕ). bit_at n r) (here without_bit) ∙ bit_at_clear_same w64 (get_or words w 0) r small

    abbrev without_filled : ℕ
    without_filled = bit_and (get_or filled (w / 64) 0) (bit_not w64 (1 * 2 ^ (w % 64) % 2 ^ 64))

    -- the word still has a bit
    pub one_fewer-words : bit_at (get_or words w 0) r ≡ 1 → 0 < without_bit → AreWords (set words w without_bit) filled
    one_fewer-words has some = record {
      places = length-set words w without_bit ∙ are.places;
      summary = are.summary;
      bits = λ c l. elim (cases_eq c w) [
        | inl same ↦ (
          λ bit. omega (arith, some, here without_bit, ap (λ (k : ℕ). get_or (set words w without_bit) k 0) same),
          λ row. ap (λ (k : ℕ). bit_at (get_or filled (k / 64) 0) (k % 64)) same
              ∙ (are.bits w within).1 (not_zero (get_or words w 0) r has),
        )
        | inr other ↦
            let row : get_or (set words w without_bit) c 0 ≡ get_or words c 0 = word_kept without_bit c other in
            (λ bit. omega (arith, row, (are.bits c l).0 bit), λ left. (are.bits c l).1 (omega (arith, row, left)))
      ];
    }

    -- the word has no bit left
    pub word_emptied : without_bit ≡ 0 → AreWords (set words w without_bit) (set filled (w / 64) without_filled)
    word_emptied none =
        let kept : (d : ℕ) → d < 64 → d ≢ w % 64 → bit_at without_filled d ≡ bit_at (get_or filled (w / 64) 0) d =
        λ d l other. bit_at_clear_other w64 (get_or filled (w / 64) 0) (w % 64) (omega arith) d l other in
        record {
          places = length-set words w without_bit ∙ are.places;
          summary = length-set filled (w / 64) without_filled ∙ are.summary;
          bits = λ c l. elim (cases_eq c w) [
            | inl same ↦
                let off : bit_at (get_or (set filled (w / 64) without_filled) (c / 64) 0) (c % 64) ≡ 0 =
                ap (λ (k : ℕ). bit_at (get_or (set filled (w / 64) without_filled) (k / 64) 0) (k % 64)) same
                ∙ summary_here without_filled kept
                ∙ bit_at_clear_same w64 (get_or filled (w / 64) 0) (w % 64) (omega arith) in
                let row : get_or (set words w without_bit) c 0 ≡ 0 =
                ap (λ (k : ℕ). get_or (set words w without_bit) k 0) same ∙ here without_bit ∙ none in
                (λ bit. absurd (omega (arith, off, bit)), λ some. absurd (omega (arith, row, some)))
            | inr other ↦
                let bits = summary_kept without_filled kept c other in
                let row : get_or (set words w without_bit) c 0 ≡ get_or words c 0 = word_kept without_bit c other in (
                  λ bit. omega (arith, row, (are.bits c l).0 (sym bits ∙ bit)),
                  λ some. bits ∙ (are.bits c l).1 (omega (arith, row, some)),
                )
          ];
        }

    smaller : bit_at (get_or words w 0) r ≡ 1 → without_bit < get_or words w 0
    smaller has = elim (cases_eq without_bit (get_or words w 0)) [
      | inl same ↦ absurd (let both : bit_at without_bit r
          ≡ bit_at (get_or words w 0) r = ap (λ (n : ℕ). bit_at n r) same in
          omega (arith, both, has, bit_at_clear_same w64 (get_or words w 0) r small))
      | inr other ↦ omega (arith, other, and_le_l (get_or words w 0) (bit_not w64 (1 * 2 ^ r % 2 ^ 64)))
    ]

    pub one_fewer-sum : bit_at (get_or words w 0) r ≡ 1 → sum (set words w without_bit) < sum words
    one_fewer-sum has = omega (arith, sum_by-set (λ (n : ℕ). n) words w without_bit 0 in_words, smaller has)

  -- ---- the pairs

  module _ (a b : ℕ) (within : a < 256) (small : b < 256) where
    abbrev w : ℕ
    w = word_of a b

    abbrev r : ℕ
    r = b % 64

    pub one_more : (c d : ℕ) → Has (set words w (with_bit w r (word_below a b within small) (bit_below b))) c d
        ↔ (Has words c d ⊎ ((c ≡ a) × (d ≡ b)))
    one_more c d =
        let below = word_below a b within small in
        let new : List ℕ = set words w (with_bit w r below (bit_below b)) in
        let kept : d < 256 → ¬ ((c ≡ a) × (d ≡ b))
        → bit_at (get_or new (word_of c d) 0) (d % 64) ≡ bit_at (get_or words (word_of c d) 0) (d % 64) =
        λ l apart. with_kept w r below (bit_below b) (word_of c d) (d % 64) (bit_below d)
        (other_pair a b c d small l apart) in (
          λ has. elim (this_or_other a b c d) [
            | inl this ↦ inr this
            | inr other ↦ inl (has.0, has.1, (has.2.0, has.2.1, sym (kept has.1 other) ∙ has.2.2))
          ],
          λ either. elim (this_or_other a b c d) [
            | inl this ↦
                let P : ℕ × ℕ → Type 0 = λ z. Has new z.0 z.1 in
                subst P (λ j. (sym this.0 j, sym this.1 j)) (
                  within,
                  small,
                  (below, bit_below b, with_has w r below (bit_below b)),
                )
            | inr other ↦ elim either [
              | inl has ↦ (has.0, has.1, (has.2.0, has.2.1, kept has.1 other ∙ has.2.2))
              | inr this ↦ absurd (other this)
            ]
          ],
        )

    pub one_fewer : (c d : ℕ) → Has (set words w (without_bit w r (word_below a b within small) (bit_below b))) c d
        ↔ (Has words c d × ¬ ((c ≡ a) × (d ≡ b)))
    one_fewer c d =
        let below = word_below a b within small in
        let new : List ℕ = set words w (without_bit w r below (bit_below b)) in
        let kept : d < 256 → ¬ ((c ≡ a) × (d ≡ b))
        → bit_at (get_or new (word_of c d) 0) (d % 64) ≡ bit_at (get_or words (word_of c d) 0) (d % 64) =
        λ l apart. without_kept w r below (bit_below b) (word_of c d) (d % 64) (bit_below d)
        (other_pair a b c d small l apart) in (
          λ has. elim (this_or_other a b c d) [
            | inl this ↦
                let P : ℕ × ℕ → Type 0 = λ z. bit_at (get_or new (word_of z.0 z.1) 0) (z.1 % 64) ≡ 1 in
                let one : bit_at (get_or new w 0) r ≡ 1 = subst P (λ j. (this.0 j, this.1 j)) has.2.2 in
                absurd (omega (arith, one, without_gone w r below (bit_below b)))
            | inr other ↦ ((has.0, has.1, (has.2.0, has.2.1, sym (kept has.1 other) ∙ has.2.2)), other)
          ],
          λ h. (h.0.0, h.0.1, (h.0.2.0, h.0.2.1, kept h.0.1 h.1 ∙ h.0.2.2)),
        )
