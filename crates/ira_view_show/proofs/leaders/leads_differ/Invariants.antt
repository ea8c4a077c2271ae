use Rattle.std.proofs.Common.{Some, [], take}
use Rattle.std.specs.List.{enumerate_from, flat_map}
use Rattle.ira_view_page.specs.Page.{Added}
use Rattle.ira_view_show.specs.Leaders.{node_difference}
use Rattle.ira_view_show.proofs.leaders.leads_differ.Given as goal

abbrev pub invariant-loop-place : goal.invariant-loop-place
invariant-loop-place g l =
    Added (Some []) (flat_map (node_difference l.named) (take l.place (enumerate_from 0 l.moment.nodes))) l.page
