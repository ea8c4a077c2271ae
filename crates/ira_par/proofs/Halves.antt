-- How many ranges there are where steps are halved so many times.
use Rattle.std.proofs.Common.{◌≡◌, ℕ, zero, suc, ◌+◌, ◌*◌, ◌%◌, ◌^◌, ◌<◌, ◌≤◌, arith}
use Rattle.std.proofs.Math.Nat.{pow-suc}

pub twice : (depth : ℕ) → 2 ^ suc depth ≡ 2 ^ depth + 2 ^ depth
twice depth = omega (arith, pow-suc 2 depth)

pub some_range : (depth : ℕ) → 0 < 2 ^ depth
some_range zero = omega arith
some_range (suc depth) = omega (arith, some_range depth, twice depth)

-- at most 16; and as a machine shifts
pub shifted : (depth : ℕ) → depth ≤ 4 → (2 ^ depth ≤ 16) × (1 * 2 ^ depth % 2 ^ 64 ≡ 2 ^ depth)
shifted zero l = (omega arith, omega arith)
shifted (suc zero) l = (omega arith, omega arith)
shifted (suc (suc zero)) l = (omega arith, omega arith)
shifted (suc (suc (suc zero))) l = (omega arith, omega arith)
shifted (suc (suc (suc (suc zero)))) l = (omega arith, omega arith)
shifted (suc (suc (suc (suc (suc depth))))) l = absurd (omega arith)
