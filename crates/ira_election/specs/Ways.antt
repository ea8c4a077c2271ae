-- In how many ways nodes may draw, and how many of them elect.
use Rattle.std.specs.Prelude.{◌≡◌, ℕ, zero, suc, ◌+◌, ◌*◌, ◌^◌, ◌≤◌, ◌==◌, max, cond, List, [], ◌∷◌, count_by}

-- the sum of f over 1 to n
abbrev pub total : ℕ → (ℕ → ℕ) → ℕ
total zero f = 0
total (suc n) f = total n f + f (suc n)

-- the sum of w over all lists of k IDs of 1 to n: over each way in which k nodes may draw
abbrev pub over_draws : ℕ → ℕ → (List ℕ → ℕ) → ℕ
over_draws n zero w = w []
over_draws n (suc k) w = total n (λ d. over_draws n k (λ ds. w (d ∷ ds)))

-- the greatest of some IDs
abbrev pub greatest : List ℕ → ℕ
greatest [] = 0
greatest (d ∷ ds) = max d (greatest ds)

-- how many of them are as great: just these nodes draw again, or it is one, and leads
abbrev pub tied : List ℕ → ℕ
tied ds = count_by (λ d. d == greatest ds) ds

-- 1 where one node has the greatest, and 0 where several have
abbrev pub elects : List ℕ → ℕ
elects ds = cond (tied ds == 1) 1 0

-- 0^e + 1^e + .. + (n - 1)^e
abbrev pub powers : ℕ → ℕ → ℕ
powers zero e = 0
powers (suc n) e = powers n e + n ^ e

-- there are n^k ways
abbrev pub WaysToDraw : Type 0
WaysToDraw = (n k : ℕ) → over_draws n k (λ ds. 1) ≡ n ^ k

-- so many of them elect, of k + 1 nodes
abbrev pub WaysToElect : Type 0
WaysToElect = (n k : ℕ) → over_draws n (suc k) elects ≡ suc k * powers n k

-- and that is at least half, where no more nodes draw than there are IDs
abbrev pub AtLeastHalfElect : Type 0
AtLeastHalfElect = (n k : ℕ) → 1 ≤ k → k ≤ n → n ^ k ≤ 2 * over_draws n k elects

-- of two nodes just half of the ways elect, and where more nodes draw than there are IDs, it may be less
abbrev pub HalfIsSharp : Type 0
HalfIsSharp = (2 * over_draws 2 2 elects ≡ 2 ^ 2) × (over_draws 1 2 elects ≡ 0)
