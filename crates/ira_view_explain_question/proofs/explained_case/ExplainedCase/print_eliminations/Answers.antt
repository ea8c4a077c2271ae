use Rattle.std.proofs.Common.{take}
use Rattle.ira_view_page.proofs.Adding.{◌&◌, added_as, added_next}
use Rattle.ira_view_explain_question.specs.EliminationLines.{elimination_text}
use Rattle.ira_view_explain_question.proofs.Told.{eliminations_told}
use Rattle.ira_view_explain_question.proofs.explained_case.ExplainedCase.print_eliminations.Goals as goal

pub loop-elimination-preserved : goal.loop-elimination-preserved
loop-elimination-preserved g c =
    let ring = c.args.self.now.ring.now in
    added_next (elimination_text ring.files.logs.now ring.asked.now.logs)
    (take c.min-told.result c.args.eliminations.now)
    c.loop-elimination.elimination-index _ c.loop-elimination-test.true c.loop-elimination.invariant
    c.print_elimination.ensures

pub returns : goal.returns
returns g c =
    let ring = c.args.self.now.ring.now in
    added_as
    (eliminations_told (elimination_text ring.files.logs.now ring.asked.now.logs) c.args.eliminations.now
    c.min-told.result c.loop-elimination.elimination-index c.min-told.ensures c.loop-elimination-test.false)
    (c.loop-elimination.invariant & c.print_more_eliminations.ensures)
