-- The limits of a link.
use Rattle.std.specs.Prelude.{ℕ}

-- the most frames that a link accepts, from its first to its last
abbrev pub MAX_FRAMES : ℕ
MAX_FRAMES = 1000000

-- the most frames that a link holds at once; the smallest capacity is 1
abbrev pub MAX_CAPACITY : ℕ
MAX_CAPACITY = 1000
