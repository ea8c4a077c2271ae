-- The words for numbers, and for lists of places.
use Rattle.std.specs.Prelude.{ℕ, ◌-◌, ◌%◌, List, [], ◌∷◌, ◌++◌, Bool, true, false, codes, decimal, length, take}
use Rattle.std.specs.Prelude.{if◌then◌else◌, nat_eq, nat_le, ◌&&◌}
use Rattle.std.specs.List.{flat_map}

-- what a number ends with that says which one in a row
abbrev pub ordinal_ending : ℕ → List ℕ
ordinal_ending n =
    if nat_le 11 (n % 100) && nat_le (n % 100) 13 then codes "th"
    else (if nat_eq (n % 10) 1 then codes "st"
    else (if nat_eq (n % 10) 2 then codes "nd"
    else (if nat_eq (n % 10) 3 then codes "rd" else codes "th")))

-- a number that says which one in a row, as in 1st
abbrev pub ordinal_text : ℕ → List ℕ
ordinal_text n = decimal n ++ ordinal_ending n

-- so many things, with the word for one of them
abbrev pub number_of_text : ℕ → List ℕ → List ℕ
number_of_text n thing =
    if nat_eq n 1 then decimal n ++ codes " " ++ thing else decimal n ++ codes " " ++ thing ++ codes "s"

-- a place of a list, with a comma before it where it isn't the first
abbrev pub listed_text : Bool → ℕ → List ℕ
listed_text true place = decimal place
listed_text false place = codes ", " ++ decimal place

-- places with commas between them
abbrev pub list_text : List ℕ → List ℕ
list_text [] = []
list_text (place ∷ places) = listed_text true place ++ flat_map (listed_text false) places

-- how many there are besides, if there are any
abbrev pub more_text : ℕ → List ℕ
more_text count = if nat_eq count 0 then [] else codes " and " ++ decimal count ++ codes " more"

-- at most eight places, and how many there are besides
abbrev pub places_text : List ℕ → List ℕ
places_text places = list_text (take 8 places) ++ more_text (length places - 8)
