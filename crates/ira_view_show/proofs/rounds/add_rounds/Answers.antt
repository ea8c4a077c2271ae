use Rattle.std.proofs.Common.{refl, subst}
use Rattle.ira_view_moment.specs.Rounds.{drawn}
use Rattle.ira_view_moment.specs.declared.rounds.Round.{Round}
use Rattle.ira_view_page.specs.Page.{Added}
use Rattle.ira_view_page.proofs.Adding.{added_next}
use Rattle.ira_view_show.specs.RoundLines.{round_row}
use Rattle.ira_view_show.proofs.Lines.{added_whole}
use Rattle.ira_view_show.proofs.rounds.add_rounds.Goals as goal

pub loop-round-preserved : goal.loop-round-preserved
loop-round-preserved g c =
    let row = λ (r : Round g.row.R.Denot). round_row c.args.has_terms (drawn r) in
    let added = added_whole refl c.cells.ensures c.add.ensures in
    added_next row c.args.rounds.now c.loop-round.round-index c.round-item.result c.loop-round-test.true
    c.loop-round.invariant
    (subst (λ (r : Round g.row.R.Denot). Added c.loop-round.table (row r) c.add.new.self) c.round-item.is added)
