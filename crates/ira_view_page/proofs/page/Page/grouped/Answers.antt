use Rattle.ira_view_page.specs.Page.{AddedSome}
use Rattle.ira_view_page.proofs.Adding.{◌&◌}
use Rattle.ira_view_page.proofs.page.Page.grouped.Goals as goal
use Rattle.ira_view_page.proofs.page.Page.grouped.Goals.{then-i-gt0+then-is_multiple_of, else-i-gt0}

pub loop-i-preserved : goal.loop-i-preserved
loop-i-preserved g c =
    let before : AddedSome c.args.self.now c.if-i-gt0.self =
    elim c.if-i-gt0.branch [
      | then-i-gt0+then-is_multiple_of w ↦ rw w.self-is (_, c.loop-i.invariant.1 & w.words.ensures)
      | else-i-gt0 w ↦ rw w.self-is c.loop-i.invariant
    ] in
    (_, before.1 & c.show.ensures)
