use Rattle.std.proofs.Common.{List, rules, ℕ}
use Rattle.ira_audit.specs.RingAudit.{HasTaken}
use Rattle.ira_main.proofs.GivenFiles.{of_given}
use Rattle.ira_main.proofs.judge_files.check_files.Goals as goal

pub check_given-requires-clause-taken : goal.check_given-requires-clause-taken
check_given-requires-clause-taken g c =
    let h = rw c.in-Ok.is at c.in_ok-given.ensures in
    let taken : (texts : List (List ℕ)) × HasTaken c.in-Ok.given.logs.audit texts = (h.texts, h.found.0) in
    search rules

pub returns-in_ok-check_given-in-Ok : goal.returns-in_ok-check_given-in-Ok
returns-in_ok-check_given-in-Ok g c =
    let h = rw c.in-Ok.is at c.in_ok-given.ensures in
    of_given _ _ _ _ _ _ _ c.in-Ok.given _ _ h (c.in_ok-check_given-in-Ok.ensures h.texts h.found.0)
