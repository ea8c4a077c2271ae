use Rattle.std.proofs.Common.{take}
use Rattle.std.specs.List.{AllZip}
use Rattle.ira_elim.specs.Found.{IsFound}
use Rattle.ira_audit.proofs.asked_question.AskedQuestion.decide.Given as goal

abbrev pub invariant-loop-case : goal.invariant-loop-case
invariant-loop-case g l = AllZip (IsFound l.self.logs) (take l.case-index l.cases) l.found.items
