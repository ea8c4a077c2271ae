-- Round the ring: what holds of a node and goes on to the next one holds of all.
use Rattle.std.proofs.Common.{◌≡◌, ℕ, zero, suc, ◌+◌, ◌<◌, ◌≤◌, ◌-◌, subst, arith}
use Rattle.std.proofs.lemmas.Bool.Decides.{nat_tests}
use Rattle.ira_order.specs.Ring.{next}
use Rattle.ira_order.proofs.Runs.{next_up}

next_last : (n i : ℕ) → i + 1 ≡ n → next n i ≡ 0
next_last n i l = grind (arith, nat_tests)

module _ (n : ℕ) (P : ℕ → Type 0) (on : (j : ℕ) → j < n → P j → P (next n j)) where
  up : (k i : ℕ) → i + k < n → P i → P (i + k)
  up zero i l here = (let same : i ≡ i + 0 = omega arith in subst P same here)
  up (suc k) i l here =
      let before : P (i + k) = up k i (omega (arith, l)) here in
      let to : next n (i + k) ≡ i + suc k = (let e = next_up n (i + k) (omega (arith, l)) in omega (arith, e)) in
      subst P to (on (i + k) (omega (arith, l)) before)

  higher : (i j : ℕ) → i ≤ j → j < n → P i → P j
  higher i j le l here =
      let gap : i + (j - i) ≡ j = omega (arith, le) in
      subst P gap (up (j - i) i (omega (arith, le, l)) here)

  pub around : (i j : ℕ) → i < n → j < n → P i → P j
  around i j li lj here =
      let last : P (n - 1) = higher i (n - 1) (omega (arith, li)) (omega (arith, li)) here in
      let first : P 0 = subst P (next_last n (n - 1) (omega (arith, li))) (on (n - 1) (omega (arith, li)) last) in
      higher 0 j (omega arith) lj first
