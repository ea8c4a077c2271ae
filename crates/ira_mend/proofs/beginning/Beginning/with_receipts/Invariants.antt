use Rattle.ira_mend.specs.Longest.{IsBeginning, IsLongestWith}
use Rattle.ira_mend.proofs.beginning.Beginning.with_receipts.Given as goal

abbrev pub invariant-loop-kept : goal.invariant-loop-kept
invariant-loop-kept g l = record {
  is : IsBeginning l.log.events l.kept;
  longest : IsLongestWith l.log.events l.fn.self.events l.most l.kept.events;
}

abbrev pub decreases-loop-kept : goal.decreases-loop-kept
decreases-loop-kept g l = l.kept.events
