use Rattle.std.proofs.Common.{◌≡◌}
use Rattle.ira_main.specs.SourceNames.{names_in}
use Rattle.ira_main.proofs.source_names.names_in_folder.Given as goal

abbrev pub invariant-loop-place : goal.invariant-loop-place
invariant-loop-place g l = l.names.items ≡ names_in l.folder l.place
