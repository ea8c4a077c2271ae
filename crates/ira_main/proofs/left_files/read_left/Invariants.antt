use Rattle.std.proofs.Common.{◌≤◌, length, take}
use Rattle.std.specs.List.{enumerate_from}
use Rattle.std.specs.Prelude.{option_map}
use Rattle.ira_main.specs.LeftFiles.{HasLeftFiles, MayBeLost}
use Rattle.ira_main.proofs.left_files.read_left.Given as goal

abbrev pub invariant-loop-place : goal.invariant-loop-place
invariant-loop-place g l = record {
  within : l.place ≤ length l.left.names.items;
  taken : HasLeftFiles g.F.TextSource.reads (MayBeLost (option_map (λ places. places.items) l.lost) l.left.in_folder)
      l.shelf (take l.place (enumerate_from 0 l.left.names.items)) l.recorded;
}
