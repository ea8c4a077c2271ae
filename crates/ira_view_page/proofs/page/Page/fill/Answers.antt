use Rattle.ira_view_page.specs.Page.{AddedSome}
use Rattle.ira_view_page.proofs.Adding.{◌&◌}
use Rattle.ira_view_page.proofs.page.Page.fill.Goals as goal
use Rattle.ira_view_page.proofs.page.Page.fill.Goals.{then-is_first, else-is_first+then-saturating_add-ge-WIDTH}
use Rattle.ira_view_page.proofs.page.Page.fill.Goals.{else-is_first+else-saturating_add-ge-WIDTH}

pub loop-word-preserved : goal.loop-word-preserved
loop-word-preserved g c =
    let before : AddedSome c.args.self.now c.if-is_first.self =
    elim c.if-is_first.branch [
      | then-is_first w ↦ rw w.self-is c.loop-word.invariant
      | else-is_first+then-saturating_add-ge-WIDTH w ↦
          rw w.self-is (_, c.loop-word.invariant.1 & w.end.ensures & w.pad_to.ensures.1)
      | else-is_first+else-saturating_add-ge-WIDTH w ↦ rw w.self-is (_, c.loop-word.invariant.1 & w.words.ensures)
    ] in
    (_, before.1 & c.show.ensures)
