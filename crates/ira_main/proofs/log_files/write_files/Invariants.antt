use Rattle.std.proofs.Common.{◌≡◌, length, take}
use Rattle.std.specs.Prelude.{vec_capacity}
use Rattle.ira_main_files.specs.Shelf.{writing_by}
use Rattle.ira_main.specs.LogFiles.{DraftsLogs}
use Rattle.ira_main.proofs.log_files.write_files.Given as goal

abbrev pub invariant-loop-place : goal.invariant-loop-place
invariant-loop-place g l = record {
  room : vec_capacity l.files ≡ length l.logs;
  count : length l.files.items ≡ l.place;
  drafted : DraftsLogs (writing_by g.F.Shelf.creates g.F.Shelf.closes g.F.Shelf.keeps g.F.Out.Sink.state) l.folder
      (take l.place l.logs) l.files.items l.fn.shelf l.shelf;
}
