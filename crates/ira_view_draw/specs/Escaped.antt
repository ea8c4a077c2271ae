-- Text in a picture, as XML spells it.
use Rattle.std.specs.Prelude.{ℕ, List, ◌++◌, codes, length, nat_eq, nat_le, take, if◌then◌else◌}
use Rattle.std.specs.List.{flat_map}
use Rattle.ira_view_page.specs.Printable.{shown_byte}

-- a byte between tags: `&`, `<`, `>` and `"` by their names, and each other one as pages show it
abbrev pub escaped_byte : ℕ → List ℕ
escaped_byte c =
    if nat_eq c 38 then codes "&amp;"
    else (if nat_eq c 60 then codes "&lt;"
    else (if nat_eq c 62 then codes "&gt;"
    else (if nat_eq c 34 then codes "&quot;" else shown_byte c)))

-- bytes between tags
abbrev pub escaped : List ℕ → List ℕ
escaped bytes = flat_map escaped_byte bytes

-- the words of a moment: all, or the first ones where there are more than a hundred bytes
abbrev pub told_words : List ℕ → List ℕ
told_words words = if nat_le (length words) 100 then escaped words else escaped (take 98 words) ++ codes ".."
