-- How a line is quoted.
use Rattle.std.specs.Prelude.{ℕ, suc, ◌-◌, List, [], ◌∷◌, ◌++◌, codes, if◌then◌else◌, length, min, nat_le, take}
use Rattle.ira_view_page.specs.Printable.{shown, shown_byte}

-- how many first bytes of a line so many characters show
abbrev pub fitting : ℕ → List ℕ → ℕ
fitting room [] = 0
fitting room (c ∷ line) =
    if nat_le (length (shown_byte c)) room then suc (fitting (room - length (shown_byte c)) line) else 0

-- all of a line that 80 characters show; of a longer one so much as 78 do, and two points
abbrev pub quoted_text : List ℕ → List ℕ
quoted_text line =
    if nat_le (length (shown line)) 80 then shown line else shown (take (fitting 78 line) line) ++ codes ".."

-- how wide what is shown of a line is, without the two points
abbrev pub quoted_width : List ℕ → ℕ
quoted_width line =
    if nat_le (length (shown line)) 80 then length (shown line) else length (shown (take (fitting 78 line) line))

-- at which column of its quote a byte of a line stands, both counted from 0; one after the line stands at its end, and one
-- that isn't shown where the two points do
abbrev pub quoted_column : List ℕ → ℕ → ℕ
quoted_column line byte = min (length (shown (take byte line))) (quoted_width line)
