-- The lines on rounds in which nodes drew.
use Rattle.std.specs.Prelude.{ℕ, ◌-◌, List, [], ◌∷◌, ◌++◌, Bool, codes, decimal, if◌then◌else◌, length}
use Rattle.std.specs.Prelude.{nat_eq, nat_lt, take}
use Rattle.std.specs.List.{flat_map, list_any}
use Rattle.ira_view_moment.specs.Rounds.{DrawnRound}
use Rattle.ira_view_show.specs.Cells.{cell_if}
use Rattle.ira_view_page.specs.Numbers.{places_text}
use Rattle.ira_view_page.specs.Table.{TableCell, TableRow, left_cell, right_cell, table_row, table_text}
use Rattle.ira_view_page.specs.declared.page.Emphasis.TheVariants.{Plain}

-- the heads of the columns, one of which is that of terms, where it is there
abbrev pub head_cells : Bool → List TableCell
head_cells has_terms =
    cell_if has_terms (right_cell (codes "term")) ++ right_cell (codes "round") ∷ [] ++ right_cell (codes "drew") ∷ []
    ++ right_cell (codes "greatest ID") ∷ []
    ++ left_cell (codes "of node") ∷ []

-- a round with its term, where there is a column of that: how many drew, the greatest ID, and the nodes that drew it
abbrev pub round_cells : Bool → DrawnRound → List TableCell
round_cells has_terms r =
    cell_if has_terms (right_cell (decimal r.term)) ++ right_cell (decimal r.number) ∷ []
    ++ right_cell (decimal (length r.draws)) ∷ []
    ++ right_cell (decimal r.greatest) ∷ []
    ++ left_cell (places_text r.greatest_of) ∷ []

abbrev pub round_row : Bool → DrawnRound → List TableRow
round_row has_terms r = table_row Plain (round_cells has_terms r) ∷ []

-- the round is of a later term than the first
abbrev pub is_later : DrawnRound → Bool
is_later r = nat_lt 1 r.term

-- at most twenty rounds, below the heads of their columns
abbrev pub round_rows : Bool → List DrawnRound → List TableRow
round_rows has_terms rounds =
    table_row Plain (head_cells has_terms) ∷ [] ++ flat_map (round_row has_terms) (take 20 rounds)

-- how many rounds there are besides, if there are any
abbrev pub beyond_text : ℕ → List ℕ
beyond_text count =
    if nat_eq count 0 then [] else codes "  " ++ codes "and " ++ decimal count ++ codes " more" ++ codes "\n"

-- the lines on rounds, and an empty line; nothing where nobody drew
abbrev pub rounds_text : List DrawnRound → List ℕ
rounds_text [] = []
rounds_text (r ∷ rs) =
    table_text (round_rows (list_any is_later (r ∷ rs)) (r ∷ rs)) ++ beyond_text (length (r ∷ rs) - 20) ++ codes "\n"
