use Rattle.ira_pred.proofs.QuestionReading.{conjunct_at}
use Rattle.ira_view_show.specs.Asked.{conjunct_text}
use Rattle.ira_view_show.proofs.Lines.{listed_at}
use Rattle.ira_view_show.proofs.heading.print_case.Goals as goal

pub loop-n-preserved : goal.loop-n-preserved
loop-n-preserved g c = listed_at conjunct_text c.args.case.now c.loop-n.n _
    (conjunct_at _ _ _ c.place.ensures c.clause.ensures) c.loop-n.invariant c.print_conjunct.ensures
