-- A list of positions, whoever owns it.
use Rattle.std.specs.Prelude.{ℕ, List}
use Rattle.ira_cert.specs.declared.positions.Store.{Store}
use Rattle.ira_cert.specs.declared.positions.Store.TheVariants.{Own, Shared}

-- the positions that lie there
abbrev pub stored : {A : Type 0} → Store A → List ℕ
stored (Own list) = list.items
stored (Shared list) = list.now
