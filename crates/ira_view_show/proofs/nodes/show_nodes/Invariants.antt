use Rattle.std.proofs.Common.{◌∷◌, ◌++◌, Some, [], take}
use Rattle.std.specs.List.{flat_map, zip}
use Rattle.ira_view_page.specs.Page.{Added}
use Rattle.ira_view_page.specs.Table.{table_row}
use Rattle.ira_view_page.specs.declared.page.Emphasis.TheVariants.{Plain}
use Rattle.ira_view_show.specs.NodeLines.{head_cells, node_row}
use Rattle.ira_view_show.proofs.nodes.show_nodes.Given as goal

abbrev pub invariant-loop-place : goal.invariant-loop-place
invariant-loop-place g l =
    Added (Some [])
    (table_row Plain (head_cells l.has_all) ∷ []
    ++ flat_map (node_row l.has_all) (take l.place (zip l.logs l.moment.nodes)))
    l.table
