use Rattle.ira_mend.specs.Longest.{events_kept}
use Rattle.ira_mend.proofs.Begun.{BegunSoFar}
use Rattle.ira_mend.proofs.mending.begin_logs.Given as goal

abbrev pub invariant-loop-place : goal.invariant-loop-place
invariant-loop-place g l = BegunSoFar l.logs (events_kept l.kept) l.begun.items l.place
