use Rattle.std.proofs.Common.{◌≡◌, ◌++◌, length}
use Rattle.std.specs.List.{flat_map}
use Rattle.ira_web.specs.Files.{bytes_of, lengths_of}
use Rattle.ira_web.proofs.files.read_files.Given as goal

abbrev pub invariant-loop-left : goal.invariant-loop-left
invariant-loop-left g l = record {
  lengths : flat_map lengths_of l.files.items ++ l.left ≡ l.lengths;
  bytes : flat_map bytes_of l.files.items ++ l.rest ≡ l.bytes;
}

abbrev pub decreases-loop-left : goal.decreases-loop-left
decreases-loop-left g l = length l.left
