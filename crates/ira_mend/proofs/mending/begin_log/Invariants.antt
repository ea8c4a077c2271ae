use Rattle.std.proofs.Common.{◌≡◌, take}
use Rattle.ira_mend.proofs.mending.begin_log.Given as goal

abbrev pub invariant-loop-k : goal.invariant-loop-k
invariant-loop-k g l = l.kept.items ≡ take l.k l.log.events
