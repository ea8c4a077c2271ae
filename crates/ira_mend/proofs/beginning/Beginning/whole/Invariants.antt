use Rattle.ira_mend.proofs.Beginnings.{Counting}
use Rattle.ira_mend.proofs.beginning.Beginning.whole.Given as goal

abbrev pub invariant-loop-event : goal.invariant-loop-event
invariant-loop-event g l = Counting l.log.events l.events l.receipts l.sendings l.event-iterator
