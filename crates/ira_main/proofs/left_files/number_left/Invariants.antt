use Rattle.std.proofs.Common.{◌<◌, ℕ}
use Rattle.ira_main.specs.LeftFiles.{LeavesNumber}
use Rattle.ira_main.proofs.left_files.number_left.Given as goal

abbrev pub invariant-loop-place : goal.invariant-loop-place
invariant-loop-place g l =
    (i : ℕ) → i < l.place → LeavesNumber g.F.TextSource.reads l.shelf l.folder i 1
