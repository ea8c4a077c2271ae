use Rattle.std.proofs.Common.{ℕ, List, Option, drop}
use Rattle.ira_view_page.specs.Page.{Added}
use Rattle.ira_view_page.specs.Table.{cells_text, column_width}
use Rattle.ira_view_page.proofs.page.Page.cells.Given as goal

-- whatever adds the cells that are left adds all of them
abbrev pub invariant-loop-column : goal.invariant-loop-column
invariant-loop-column g l =
    (end : Option (List ℕ)) → Added l.self (cells_text (column_width l.lines) l.column (drop l.column l.cells)) end
    → Added l.initial.self (cells_text (column_width l.lines) 0 l.cells) end
