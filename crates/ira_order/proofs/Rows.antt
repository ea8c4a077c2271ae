-- Rows of counters, one after the other.
use Rattle.std.proofs.Common.{◌≡◌, ℕ, zero, suc, ◌-◌, ◌*◌, ◌≤◌, List, length, ◌∙◌, arith, take, drop, replicate}
use Rattle.std.proofs.Common.{length-drop}
use Rattle.ira_order.specs.Stamps.{IsRow}
use Rattle.std.proofs.lemmas.List.{get_or-take, get_or-drop, get_or-replicate, length-replicate, length-take-le}

-- where row g stands
pub row_part : (n g : ℕ) (counters : List ℕ) → 1 ≤ g → g * n ≤ length counters
    → IsRow n counters g (take (g * n - (g * n - n)) (drop (g * n - n) counters))
row_part n zero counters some fits = absurd (omega arith)
row_part n (suc r) counters some fits =
    let start : suc r * n - n ≡ r * n = omega arith in
    let all : suc r * n - (suc r * n - n) ≡ n = omega arith in
    rw (all, start) record {
      wide = length-take-le n (drop (r * n) counters) (omega (arith, length-drop (r * n) counters, fits));
      each = λ i l. get_or-take n (drop (r * n) counters) i 0 l ∙ get_or-drop (r * n) counters i 0;
    }

-- zeros stand for row 0
pub row_zeros : (n m g : ℕ) (counters : List ℕ) → g ≡ 0 → n ≤ m → IsRow n counters g (take n (replicate m 0))
row_zeros n m g counters none room =
    rw none record {
      wide = length-take-le n (replicate m 0) (omega (arith, room, length-replicate {A = ℕ} m 0));
      each = λ i l. get_or-take n (replicate m 0) i 0 l ∙ get_or-replicate m i 0 0 (omega (arith, l, room));
    }
