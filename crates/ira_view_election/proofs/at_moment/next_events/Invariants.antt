use Rattle.std.proofs.Common.{take}
use Rattle.std.specs.List.{enumerate_from}
use Rattle.ira_view_page.specs.Parts.{AreParts}
use Rattle.ira_view_election.specs.Coming.{IsNextAt}
use Rattle.ira_view_election.proofs.at_moment.next_events.Given as goal

abbrev pub invariant-loop-node : goal.invariant-loop-node
invariant-loop-node g l =
    AreParts (IsNextAt l.moment) (take l.node (enumerate_from 0 l.moment.nodes)) l.next.items
