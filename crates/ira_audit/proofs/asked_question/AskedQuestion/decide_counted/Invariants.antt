use Rattle.std.proofs.Common.{List, length, take}
use Rattle.std.specs.List.{AllZip}
use Rattle.ira_elim.specs.declared.found.Found.{Found}
use Rattle.ira_elim.specs.Found.{IsFound}
use Rattle.ira_audit.specs.DecidedCases.{AreDrafted}
use Rattle.ira_audit.proofs.asked_question.AskedQuestion.decide_counted.Given as goal

abbrev pub invariant-loop-case : goal.invariant-loop-case
invariant-loop-case g l =
    (found : List (Found g.row.A.Denot)) × AllZip (IsFound l.self.logs) (take l.case-index l.cases) found
    × AreDrafted (length l.self.logs) l.certify found l.draft
