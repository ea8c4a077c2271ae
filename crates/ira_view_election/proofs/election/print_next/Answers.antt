use Rattle.std.proofs.Common.{◌∙◌, sym}
use Rattle.ira_view_page.proofs.Adding.{◌&◌, added_as}
use Rattle.ira_view_election.proofs.Lines.{nothing_next, some_next}
use Rattle.ira_view_election.proofs.election.print_next.Goals as goal

pub returns-then-is_empty : goal.returns-then-is_empty
returns-then-is_empty g c =
    added_as (nothing_next c.args.next.now c.args.contenders.now (sym c.is_empty.ensures ∙ c.if-is_empty.true)) c.line.ensures

pub returns : goal.returns
returns g c =
    added_as (some_next c.args.next.now c.args.contenders.now (sym c.is_empty.ensures ∙ c.if-is_empty.false))
    (c.begin.ensures & c.words.ensures & c.print_contenders.ensures & c.words-2.ensures & c.end.ensures
    & c.print_nodes_due.ensures)
