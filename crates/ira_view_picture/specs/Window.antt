-- Which columns are drawn.
use Rattle.std.specs.Prelude.{ℕ, ◌≤◌, Bool, ◌&&◌, List, Option, count_by, max, min, nat_le, sum_by}
use Rattle.std.specs.Option.{unwrap_or}
use Rattle.ira_view_picture.specs.declared.window.Window.{Window}

-- the column is drawn
abbrev pub IsIn : Window → ℕ → Type 0
IsIn w c = (w.first ≤ c) × (c ≤ w.last)

-- the columns from one to another, of which the first or the last stands for one that isn't given or is past them; at
-- least one
abbrev pub asked_window : Option ℕ → Option ℕ → ℕ → Window
asked_window from to last =
    record {
      first = min (unwrap_or from 0) last;
      last = max (min (unwrap_or from 0) last) (min (unwrap_or to last) last);
    }

-- whether the column is drawn
abbrev pub is_in : Window → ℕ → Bool
is_in w c = nat_le w.first c && nat_le c w.last

-- how many of these columns are drawn
abbrev pub number_drawn : Window → List ℕ → ℕ
number_drawn w columns = count_by (is_in w) columns

-- how many of a table's, with a list for each node
abbrev pub events_drawn : Window → List (List ℕ) → ℕ
events_drawn w table = sum_by (number_drawn w) table
