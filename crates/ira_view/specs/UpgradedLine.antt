-- The line that is written of upgraded logs.
use Rattle.std.specs.Prelude.{ℕ, List, ◌++◌, codes, decimal}

-- how many logs were upgraded
abbrev pub upgraded_text : ℕ → List ℕ
upgraded_text number = codes "upgraded " ++ decimal number ++ codes " logs\n"
