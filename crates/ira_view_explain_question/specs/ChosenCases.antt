-- Which cases are explained.
use Rattle.std.specs.Prelude.{ℕ, ◌-◌, Bool, false, List, [], ◌∷◌, ◌++◌, Option, None, Some, codes, decimal, filter}
use Rattle.std.specs.Prelude.{if◌then◌else◌, length, nat_eq, nat_lt, slice_get}
use Rattle.std.specs.List.{range_with_len}
use Rattle.std.specs.Option.{option_map_or}
use Rattle.ira_elim.specs.declared.found.Found.{Found}
use Rattle.ira_audit.specs.Findings.{is_present}
use Rattle.ira_view_page.specs.Numbers.{number_of_text}

-- the case of the number was found present
abbrev pub is_present_at : {A : Type 0} → List (Found A) → ℕ → Bool
is_present_at found number = option_map_or is_present (slice_get found number) false

-- the numbers of those
abbrev pub present_cases : {A : Type 0} → List (Found A) → List ℕ
present_cases found = filter (is_present_at found) (range_with_len 0 (length found))

-- these numbers, or all below n where there are none
abbrev pub or_all : List ℕ → ℕ → List ℕ
or_all [] n = range_with_len 0 n
or_all (x ∷ xs) n = x ∷ xs

-- the case of the number, if there is one; where none is named those that were found present, or all where none was
abbrev pub chosen_cases : {A : Type 0} → Option ℕ → List (Found A) → List ℕ
chosen_cases (Some number) found = if nat_lt number (length found) then number ∷ [] else []
chosen_cases None found = or_all (present_cases found) (length found)

-- that there is no case of the number, where none was chosen of so many
abbrev pub no_case_text : ℕ → ℕ → ℕ → List ℕ
no_case_text number chosen cases =
    if nat_eq chosen 0 then codes "\n  There is no case " ++ decimal number ++ codes ": the question has "
    ++ number_of_text cases (codes "case")
    ++ codes ", counted from 0."
    ++ codes "\n"
    else []

-- how many chosen cases there are besides the first eight, if there are any
abbrev pub more_cases_text : ℕ → List ℕ
more_cases_text count =
    if nat_eq count 0 then []
    else codes "\n  and " ++ number_of_text count (codes "case") ++ codes " more: name one by --case C" ++ codes "\n"

-- what follows the explained cases: of so many chosen ones, and so many of the question
abbrev pub rest_text : Option ℕ → ℕ → ℕ → List ℕ
rest_text (Some number) chosen cases = no_case_text number chosen cases
rest_text None chosen cases = more_cases_text (chosen - 8)
