use Rattle.std.proofs.Common.{◌≡◌, length}
use Rattle.ira_par.proofs.share.Share.new.Given as goal

abbrev pub invariant-loop : goal.invariant-loop
invariant-loop g l = length l.queues.items ≡ l.counter
