use Rattle.ira_elim.specs.CandidateClock.{AreNoReceipts}
use Rattle.ira_elim.proofs.candidate_clock.receives.Given as goal

abbrev pub invariant-loop-number : goal.invariant-loop-number
invariant-loop-number g l = AreNoReceipts l.log l.from l.number
