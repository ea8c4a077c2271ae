use Rattle.std.proofs.Common.{◌≡◌, ◌≤◌, length}
use Rattle.ira_web.proofs.commands.names.Given as goal

abbrev pub invariant-loop-file : goal.invariant-loop-file
invariant-loop-file g l = record {
  within : l.file-index ≤ length l.files;
  many : length l.names.items ≡ l.file-index;
}
