-- The lines on nodes.
use Rattle.std.specs.Prelude.{ℕ, List, [], ◌∷◌, ◌++◌, Bool, true, false, codes, decimal, length}
use Rattle.std.specs.List.{flat_map, zip}
use Rattle.ira_event.specs.Log.{Log}
use Rattle.ira_view_moment.specs.declared.node_progress.NodeProgress.{NodeProgress}
use Rattle.ira_view_show.specs.Cells.{cell_if}
use Rattle.ira_view_page.specs.Table.{TableCell, TableRow, left_cell, right_cell, table_row, table_text}
use Rattle.ira_view_page.specs.Words.{state_text}
use Rattle.ira_view_page.specs.declared.page.Emphasis.TheVariants.{Plain}

-- the heads of the columns, one of which says how many events a log has in all, where it is there
abbrev pub head_cells : Bool → List TableCell
head_cells has_all =
    right_cell (codes "node") ∷ [] ++ left_cell (codes "start") ∷ [] ++ right_cell (codes "events") ∷ []
    ++ cell_if has_all (right_cell (codes "   of"))
    ++ right_cell (codes "draws") ∷ []
    ++ right_cell (codes "sent") ∷ []
    ++ right_cell (codes "received") ∷ []
    ++ right_cell (codes "dropped") ∷ []
    ++ left_cell (codes "state") ∷ []

-- how a node starts
abbrev pub start_text : Bool → List ℕ
start_text true = codes "initiator"
start_text false = codes "passive  "

-- how far a node has come along its log
abbrev pub node_cells : Bool → Log × NodeProgress → List TableCell
node_cells has_all (log, p) =
    right_cell (decimal log.place) ∷ [] ++ left_cell (start_text log.initiator) ∷ []
    ++ right_cell (decimal p.events) ∷ []
    ++ cell_if has_all (right_cell (decimal (length log.events)))
    ++ right_cell (decimal p.draws) ∷ []
    ++ right_cell (decimal p.sent) ∷ []
    ++ right_cell (decimal p.received) ∷ []
    ++ right_cell (decimal p.dropped) ∷ []
    ++ left_cell (state_text p.state) ∷ []

abbrev pub node_row : Bool → Log × NodeProgress → List TableRow
node_row has_all node = table_row Plain (node_cells has_all node) ∷ []

-- all nodes, below the heads of their columns
abbrev pub node_rows : Bool → List Log → List NodeProgress → List TableRow
node_rows has_all logs nodes = table_row Plain (head_cells has_all) ∷ [] ++ flat_map (node_row has_all) (zip logs nodes)

abbrev pub nodes_text : Bool → List Log → List NodeProgress → List ℕ
nodes_text has_all logs nodes = table_text (node_rows has_all logs nodes)
