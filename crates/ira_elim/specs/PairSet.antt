-- Helpers, no definitions: sets of ordered pairs of places, as the bits of words. A place takes four words, so that
-- there is a bit for each place below 256.
use Rattle.std.specs.Prelude.{◌≡◌, ℕ, ◌+◌, ◌*◌, ◌/◌, ◌%◌, ◌<◌, ◌↔◌, List, length, slice_index}
use Rattle.std.specs.Int.{bit_at}

-- bit r of word w is set
abbrev pub HasBit : List ℕ → ℕ → ℕ → Type 0
HasBit words w r = (w < 1024) × (r < 64) × (bit_at (slice_index words w) r ≡ 1)

-- the word of a pair
abbrev pub word_of : ℕ → ℕ → ℕ
word_of a b = 4 * a + b / 64

-- the set has the pair of a and b
abbrev pub Has : List ℕ → ℕ → ℕ → Type 0
Has words a b = (a < 256) × (b < 256) × HasBit words (word_of a b) (b % 64)

-- there are four words for each place, and the bit of a word in `filled` is set exactly where the word isn't 0
pub record AreWords (words filled : List ℕ) : Type 0 where
  pub places : length words ≡ 1024
  pub summary : length filled ≡ 16
  pub bits : (w : ℕ) → w < 1024 → (bit_at (slice_index filled (w / 64)) (w % 64) ≡ 1) ↔ (0 < slice_index words w)
