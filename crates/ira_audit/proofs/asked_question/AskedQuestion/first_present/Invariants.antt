use Rattle.std.proofs.Common.{take}
use Rattle.ira_audit.specs.Never.{NoCutMeetsAny}
use Rattle.ira_audit.proofs.asked_question.AskedQuestion.first_present.Given as goal

abbrev pub invariant-loop-number : goal.invariant-loop-number
invariant-loop-number g l = NoCutMeetsAny l.self.logs (take l.number l.cases)
