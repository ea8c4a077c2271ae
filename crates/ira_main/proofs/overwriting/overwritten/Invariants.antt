use Rattle.std.proofs.Common.{◌<◌, ℕ}
use Rattle.ira_main_files.specs.FileName.{log_name}
use Rattle.ira_main.specs.Overwriting.{ReplacesNone}
use Rattle.ira_main.proofs.overwriting.overwritten.Given as goal

abbrev pub invariant-loop-place : goal.invariant-loop-place
invariant-loop-place g l = (place : ℕ) → place < l.place
    → ReplacesNone g.F.TextSource.reads l.shelf (log_name l.folder place) l.names
