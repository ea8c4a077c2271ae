use Rattle.std.proofs.Common.{◌≤◌, All, length, take}
use Rattle.ira_main.specs.Overwriting.{IsOtherFile}
use Rattle.ira_main.proofs.overwriting.replaced.Given as goal

abbrev pub invariant-loop-name : goal.invariant-loop-name
invariant-loop-name g l = record {
  within : l.name-index ≤ length l.names;
  none : All (IsOtherFile g.F.TextSource.reads l.shelf l.written) (take l.name-index l.names);
}
