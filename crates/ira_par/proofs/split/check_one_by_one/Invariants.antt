use Rattle.ira_par.specs.Sections.{AreSoundBefore}
use Rattle.ira_par.proofs.split.check_one_by_one.Given as goal

abbrev pub invariant-loop-section : goal.invariant-loop-section
invariant-loop-section g l = AreSoundBefore l.section l.profiles l.cases l.sections
