use Rattle.std.proofs.Common.{[], subst, sym}
use Rattle.ira_view_page.proofs.Adding.{◌&◌, finished, nothing_added}
use Rattle.ira_view_page.specs.Page.{AddedSome}
use Rattle.ira_commands.proofs.Served.{if_ok}
use Rattle.ira_commands.proofs.decided_line.present_line.Goals as goal
use Rattle.ira_commands.proofs.decided_line.present_line.Goals.{in-Some, in_default}

pub returns : goal.returns
returns g c =
    let asks : AddedSome c.add_positions.new.page c.match-asked.page = elim c.match-asked.branch [
      | in-Some w ↦ subst (AddedSome c.add_positions.new.page) (sym w.page-is) w.add_asked.ensures
      | in_default w ↦ subst (AddedSome c.add_positions.new.page) (sym w.page-is) ([], nothing_added _)
    ] in
    let at = rw c.positions.ensures at c.add_positions.ensures in
    let all = c.words.ensures & c.number.ensures & c.words-2.ensures & at & asks.1 & c.words-3.ensures in
    if_ok c.finish.result (λ line is. (asks.0, is)) (finished c.finish.result c.new-page.ensures all c.finish.ensures)
