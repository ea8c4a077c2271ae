use Rattle.std.proofs.Common.{◌≤◌, ◌-◌, length}
use Rattle.ira_par.specs.Sections.{AreSoundBefore}
use Rattle.ira_par.proofs.split.split_sections.Given as goal

abbrev pub invariant-loop-first : goal.invariant-loop-first
invariant-loop-first g l = record {
  before : AreSoundBefore l.first l.profiles l.cases l.sections;
  within : l.first ≤ length l.cases;
}

abbrev pub decreases-loop-first : goal.decreases-loop-first
decreases-loop-first g l = length l.cases - l.first
