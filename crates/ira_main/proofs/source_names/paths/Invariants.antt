use Rattle.std.proofs.Common.{◌≡◌, ◌≤◌, length}
use Rattle.ira_main.proofs.source_names.paths.Given as goal

abbrev pub invariant-loop-name : goal.invariant-loop-name
invariant-loop-name g l = record {
  within : l.name-index ≤ length l.names;
  many : length l.paths.items ≡ l.name-index;
}
