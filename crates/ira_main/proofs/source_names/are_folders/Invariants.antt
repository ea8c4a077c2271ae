use Rattle.std.proofs.Common.{◌<◌, ℕ, List}
use Rattle.std.specs.Borrow.{Bor}
use Rattle.std.specs.Prelude.{slice_index_or}
use Rattle.ira_main_files.specs.declared.file_entry.FileEntry.TheVariants.{Folder}
use Rattle.ira_main.proofs.source_names.are_folders.Given as goal

abbrev pub invariant-loop-name : goal.invariant-loop-name
invariant-loop-name g l =
    (k : ℕ) (d : Bor (List ℕ)) → k < l.name-index → g.F.TextSource.reads.entry l.shelf (slice_index_or l.names k d).now Folder
