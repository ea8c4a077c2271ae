-- Where columns and lanes stand in a picture.
use Rattle.std.specs.Prelude.{ℕ, ◌+◌, ◌-◌, ◌*◌, ◌<◌, ◌≤◌, ◌^◌, if◌then◌else◌, max, min, nat_le, nat_lt}
use Rattle.ira_view_picture.specs.declared.window.Window.{Window}

-- how many columns are drawn
abbrev pub columns_in : Window → ℕ
columns_in w = w.last - w.first + 1

-- how wide a column is
abbrev pub width_of : Window → ℕ
width_of w =
    if nat_le (columns_in w) 12 then 64
    else (if nat_le (columns_in w) 20 then 44
    else (if nat_le (columns_in w) 40 then 30
    else (if nat_le (columns_in w) 100 then 18
    else (if nat_le (columns_in w) 400 then 12 else 8))))

-- how far apart lanes are in a ring of so many nodes
abbrev pub height_of : ℕ → ℕ
height_of nodes =
    if nat_le nodes 4 then 84
    else (if nat_le nodes 8 then 56 else (if nat_le nodes 16 then 44 else (if nat_le nodes 32 then 34 else 26)))

-- where a column stands that is the first one or right of it
abbrev pub x_of : Window → ℕ → ℕ
x_of w column = 76 + (column - w.first) * width_of w

-- where a lane stands
abbrev pub y_of : ℕ → ℕ → ℕ
y_of nodes lane = 96 + min (lane * height_of nodes) 32000

-- where the last lane stands: that of node 0 once more below the others, but for two nodes
abbrev pub foot_of : ℕ → ℕ
foot_of nodes = y_of nodes (if nat_lt 2 nodes then nodes else 1)

-- how wide the picture is, with room right of the last column
abbrev pub picture_width : Window → ℕ
picture_width w = max (x_of w w.last + max (width_of w) 24 + 190) 780

-- right of the names of nodes
abbrev pub IsAcross : ℕ → Type 0
IsAcross x = (76 ≤ x) × (x < 2 ^ 40)

-- below the heading
abbrev pub IsDown : ℕ → Type 0
IsDown y = (96 ≤ y) × (y < 2 ^ 15)
