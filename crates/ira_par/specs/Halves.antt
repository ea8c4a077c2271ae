-- Where the ranges of a section's steps begin.
use Rattle.std.specs.Prelude.{ℕ, zero, suc, ◌+◌, ◌-◌, ◌/◌, List, [], ◌∷◌, ◌++◌, get_or}

-- the step halfway between two
abbrev pub halfway : ℕ → ℕ → ℕ
halfway from to = from + (to - from) / 2

-- the steps between two of them, halved so many times: with which step each part begins
abbrev pub halved : ℕ → ℕ → ℕ → List ℕ
halved zero from to = from ∷ []
halved (suc depth) from to = halved depth from (halfway from to) ++ halved depth (halfway from to) to

-- the step with which range r of 2 ^ depth begins, of so many steps; for r = 2 ^ depth it is the end of the last one
abbrev pub begin_of : ℕ → ℕ → ℕ → ℕ
begin_of steps depth r = get_or (halved depth 0 steps) r steps
