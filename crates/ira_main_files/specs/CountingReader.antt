-- A reader whose reads are counted.
use Rattle.std.specs.Prelude.{ℕ, ◌+◌, ◌-◌, ◌^◌, min, Bool, true, List, Option, Result, Ok, Err, nat_eq}

-- a reader: the bytes that it has left, where it says which, how many reads were made of it, whether
-- the last gave no byte, and whether it failed
pub record Reads : Type 0 where
  pub left : Option (List ℕ)
  pub reads : ℕ
  pub is_over : Bool
  pub has_failed : Bool

-- one read more; the count stops at the last u64
abbrev pub one_more : ℕ → ℕ
one_more n = min (n + 1) (2 ^ 64 - 1)

-- a read gave no byte: it failed, or was at the end
abbrev pub gives_none : {E : Type 0} → Result ℕ E → Bool
gives_none (Ok n) = nat_eq n 0
gives_none (Err e) = true
