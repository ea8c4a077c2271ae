-- The lines of a table.
use Rattle.std.specs.Prelude.{ℕ, ◌+◌, ◌-◌, List, [], ◌∷◌, ◌++◌, Bool, Option, Some, None, codes, length, max, slice_get}
use Rattle.std.specs.Prelude.{if◌then◌else◌, nat_eq}
use Rattle.std.specs.List.{list_all, flat_map}
use Rattle.ira_view_page.specs.Page.{mark_text, spaces}
use Rattle.ira_view_page.specs.declared.page.Emphasis.{Emphasis}
use Rattle.ira_view_page.specs.declared.side.Side.{Side}
use Rattle.ira_view_page.specs.declared.side.Side.TheVariants.{Left, Right}

-- a cell: what stands in it, and on which side
pub record TableCell : Type 0 where
  pub side : Side
  pub text : List ℕ

-- a row: its mark, and its cells from the left
pub record TableRow : Type 0 where
  pub mark : Emphasis
  pub cells : List TableCell

abbrev pub cell_of : Side → List ℕ → TableCell
cell_of side text = record { side = side; text = text }

abbrev pub left_cell : List ℕ → TableCell
left_cell text = cell_of Left text

abbrev pub right_cell : List ℕ → TableCell
right_cell text = cell_of Right text

abbrev pub table_row : Emphasis → List TableCell → TableRow
table_row mark cells = record { mark = mark; cells = cells }

-- how wide a cell is, if there is one
abbrev pub width_of : Option TableCell → ℕ
width_of None = 0
width_of (Some cell) = length cell.text

-- how wide the widest cell of a column is
abbrev pub column_width : List TableRow → ℕ → ℕ
column_width [] column = 0
column_width (row ∷ rows) column = max (width_of (slice_get row.cells column)) (column_width rows column)

-- nothing stands in the cell
abbrev pub is_empty : TableCell → Bool
is_empty cell = nat_eq (length cell.text) 0

-- how many spaces stand before what is in a cell of a column that is so wide
abbrev pub room_before : Side → ℕ → List ℕ → ℕ
room_before Left width text = 0
room_before Right width text = width - length text

-- how many stand after it
abbrev pub room_after : Side → ℕ → List ℕ → ℕ
room_after Left width text = width - length text
room_after Right width text = 0

-- a cell of a column that is so wide
abbrev pub cell_text : ℕ → TableCell → List ℕ
cell_text width cell = spaces (room_before cell.side width cell.text) ++ cell.text

-- the spaces between a cell and those after it, if something stands in them
abbrev pub gap_text : ℕ → TableCell → List TableCell → List ℕ
gap_text width cell rest =
    if list_all is_empty rest then [] else spaces (room_after cell.side width cell.text) ++ codes "  "

-- cells from a column on, where the columns are so wide, without spaces at their end
abbrev pub cells_text : (ℕ → ℕ) → ℕ → List TableCell → List ℕ
cells_text widths column [] = []
cells_text widths column (cell ∷ rest) =
    if list_all is_empty (cell ∷ rest) then []
    else cell_text (widths column) cell ++ gap_text (widths column) cell rest ++ cells_text widths (column + 1) rest

-- the line of a row in a table with columns that are so wide
abbrev pub row_text : (ℕ → ℕ) → TableRow → List ℕ
row_text widths row = mark_text row.mark ++ cells_text widths 0 row.cells ++ codes "\n"

-- the lines of a table
abbrev pub table_text : List TableRow → List ℕ
table_text rows = flat_map (row_text (column_width rows)) rows
