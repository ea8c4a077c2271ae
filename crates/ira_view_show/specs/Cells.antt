-- Cells of tables.
use Rattle.std.specs.Prelude.{List, [], ◌∷◌, Bool, true, false}
use Rattle.ira_view_page.specs.Table.{TableCell}

-- a cell, where there is such a column
abbrev pub cell_if : Bool → TableCell → List TableCell
cell_if true cell = cell ∷ []
cell_if false cell = []
