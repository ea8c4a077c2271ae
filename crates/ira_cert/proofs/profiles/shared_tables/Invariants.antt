use Rattle.std.proofs.Common.{All}
use Rattle.ira_cert.specs.SharedTable.{IsTableOf}
use Rattle.ira_cert.proofs.profiles.shared_tables.Given as goal

abbrev pub invariant-loop-asked : goal.invariant-loop-asked
invariant-loop-asked g l = All (IsTableOf l.logs) l.tables.items
