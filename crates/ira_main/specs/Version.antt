-- Which version of the program this is.
use Rattle.std.specs.Prelude.{ℕ, List, codes}

-- the program's version, and the logic that it was proved in
abbrev pub version_line : List ℕ
version_line = codes "ira 0.4.2 (proved by rattle, logic dac8208d650f15bf)\n"
