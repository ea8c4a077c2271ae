-- Helpers, no definitions: what is ahead, the positions that are left of a rising list.
use Rattle.std.specs.Prelude.{ℕ, List, [], ◌∷◌, Option, Some, None}

-- the positions left: the front and then the rest; without a front there are none
abbrev pub with_front : Option ℕ → List ℕ → List ℕ
with_front None rest = []
with_front (Some front) rest = front ∷ rest
