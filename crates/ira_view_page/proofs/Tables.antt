-- Columns of a table, and cells from one on.
use Rattle.std.proofs.Common.{◌≡◌, ℕ, zero, suc, ◌+◌, ◌-◌, ◌<◌, false, true, List, [], ◌∷◌, ◌++◌, refl, sym, ap, ◌∙◌}
use Rattle.std.proofs.Common.{arith, max, Option, add-one, drop, get_or, length, slice_get, subst, take}
use Rattle.std.specs.List.{list_all}
use Rattle.std.proofs.lemmas.List.{take_more}
use Rattle.ira_event.proofs.Rest.{slice-from}
use Rattle.ira_view_page.specs.Page.{Added}
use Rattle.ira_view_page.specs.Table.{TableCell, TableRow, cell_text, cells_text, column_width, gap_text, is_empty}
use Rattle.ira_view_page.specs.Table.{width_of}
use Rattle.ira_view_page.proofs.Adding.{◌&◌, nothing_added}

column_width_append : (rows : List TableRow) (row : TableRow) (column : ℕ)
    → column_width (rows ++ row ∷ []) column ≡ max (column_width rows column) (width_of (slice_get row.cells column))
column_width_append [] row column = omega arith
column_width_append (r ∷ rows) row column =
    ap (max (width_of (slice_get r.cells column))) (column_width_append rows row column) ∙ omega arith

-- the widest cell of a column in one row more
pub width_next : (rows : List TableRow) (i column : ℕ) (row d : TableRow) (so_far width : ℕ) → i < length rows
    → row ≡ get_or rows i d → width ≡ width_of (slice_get row.cells column) → so_far ≡ column_width (take i rows) column
    → max so_far width ≡ column_width (take (i + 1) rows) column
width_next rows i column row d so_far width l is here before =
    let more : column_width (take (i + 1) rows) column ≡ column_width (take i rows ++ row ∷ []) column =
    ap (λ r. column_width r column) (take_more rows i d l ∙ ap (λ r. take i rows ++ r ∷ []) (sym is)) in
    rw (here, before) (sym (more ∙ column_width_append (take i rows) row column))

drop_suc : {X : Type 0} (xs : List X) (i : ℕ) (d : X) → i < length xs → drop i xs ≡ get_or xs i d ∷ drop (suc i) xs
drop_suc [] i d l = absurd (omega (arith, l))
drop_suc (x ∷ xs) zero d l = refl
drop_suc (x ∷ xs) (suc i) d l = drop_suc xs i d (omega (arith, l))

-- a list from an element on
drop_at : {X : Type 0} (xs : List X) (i : ℕ) (d : X) → i < length xs → drop i xs ≡ get_or xs i d ∷ drop (i + 1) xs
drop_at xs i d l = drop_suc xs i d l ∙ ap (λ n. get_or xs i d ∷ drop n xs) (sym (add-one i))

-- nothing is shown of empty cells
no_cells : (widths : ℕ → ℕ) (i : ℕ) (cells : List TableCell) → list_all is_empty cells ≡ true
    → cells_text widths i cells ≡ []
no_cells widths i [] all = refl
no_cells widths i (cell ∷ rest) all = rw all refl

-- a cell, the spaces after it, and the cells after those
some_cells : (widths : ℕ → ℕ) (i : ℕ) (cell : TableCell) (rest : List TableCell)
    → list_all is_empty (cell ∷ rest) ≡ false
    → cells_text widths i (cell ∷ rest)
    ≡ cell_text (widths i) cell ++ gap_text (widths i) cell rest ++ cells_text widths (i + 1) rest
some_cells widths i cell rest filled = rw filled refl

-- the cells from a column on were added, where those are empty
pub none_left : (widths : ℕ → ℕ) (cells : List TableCell) (i : ℕ) (p : Option (List ℕ))
    → list_all is_empty (take (length cells - i) (drop i cells)) ≡ true → Added p (cells_text widths i (drop i cells)) p
none_left widths cells i p empty =
    rw (no_cells widths i (drop i cells) (sym (ap (list_all is_empty) (slice-from cells i)) ∙ empty)) (nothing_added p)

-- the cells from a column on were added, where the one there was, and the spaces after it, and those after these
pub one_more : {p q r s : Option (List ℕ)} (widths : ℕ → ℕ) (cells : List TableCell) (i width : ℕ) (cell d : TableCell)
    → i < length cells → cell ≡ get_or cells i d → width ≡ widths i
    → list_all is_empty (take (length cells - i) (drop i cells)) ≡ false → Added p (cell_text width cell) q
    → Added q (gap_text width cell (take (length cells - (i + 1)) (drop (i + 1) cells))) r
    → Added r (cells_text widths (i + 1) (drop (i + 1) cells)) s → Added p (cells_text widths i (drop i cells)) s
one_more {p} {q} {r} {s} widths cells i width cell d l is wide filled here gap after =
    let from : drop i cells ≡ cell ∷ drop (i + 1) cells =
    drop_at cells i d l ∙ ap (λ c. c ∷ drop (i + 1) cells) (sym is) in
    let some = sym (ap (list_all is_empty) (slice-from cells i ∙ from)) ∙ filled in
    let text = some_cells widths i cell (drop (i + 1) cells) some in
    let gap_here : Added q (gap_text (widths i) cell (drop (i + 1) cells)) r =
    subst (λ w. Added q (gap_text w cell (drop (i + 1) cells)) r) wide
    (subst (λ x. Added q (gap_text width cell x) r) (slice-from cells (i + 1)) gap) in
    let cell_here = subst (λ w. Added p (cell_text w cell) q) wide here in
    rw (from, text) (cell_here & gap_here & after)
