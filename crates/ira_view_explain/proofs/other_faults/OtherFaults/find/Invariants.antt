use Rattle.ira_view_explain.proofs.RingHints.{AreSoFar}
use Rattle.ira_view_explain.proofs.other_faults.OtherFaults.find.Given as goal

abbrev pub invariant-loop-other : goal.invariant-loop-other
invariant-loop-other g l = AreSoFar l.logs l.link l.other l.found
