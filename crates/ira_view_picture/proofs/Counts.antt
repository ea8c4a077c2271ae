-- How many columns are drawn.
use Rattle.std.proofs.Common.{ℕ, ◌≤◌, List, [], ◌∷◌, arith, length}
use Rattle.std.specs.Prelude.{sum_by}
use Rattle.std.proofs.lemmas.List.Sums.{count_by-le-length, sum_by-cons}
use Rattle.ira_view_picture.specs.declared.window.Window.{Window}
use Rattle.ira_view_picture.specs.Window.{is_in, number_drawn}

-- no more are drawn than there are
pub few_drawn : (w : Window) (table : List (List ℕ)) → sum_by (number_drawn w) table ≤ sum_by length table
few_drawn w [] = omega arith
few_drawn w (row ∷ table) =
    omega (
      arith,
      few_drawn w table,
      count_by-le-length (is_in w) row,
      sum_by-cons (number_drawn w) row table,
      sum_by-cons length row table,
    )
