use Rattle.std.proofs.Common.{take}
use Rattle.ira_commands.specs.DecidedLine.{AreAbsent}
use Rattle.ira_commands.proofs.decided_line.decided_line.Given as goal

abbrev pub invariant-loop-number : goal.invariant-loop-number
invariant-loop-number g l = AreAbsent (take l.number l.decided)
