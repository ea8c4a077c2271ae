-- A page to move in a picture.
use Rattle.std.specs.Prelude.{◌≡◌, ℕ, ◌/◌, ◌%◌, Bool, List, [], ◌∷◌, ◌++◌, codes, nat_eq, not, ◌&&◌, ◌||◌, if◌then◌else◌}
use Rattle.std.specs.List.{flat_map}
use Rattle.ira_view_page.specs.Printable.{hex_digit_of, is_graphic}
use Rattle.ira_view_html.specs.declared.frame.TheConstants.{FOOT, HEAD, MIDDLE}
use Rattle.ira_view_html.specs.declared.script.TheConstants.{SCRIPT}

-- the byte stands in a page as it is: printable ASCII but for `<`, with which each tag begins, or a line feed
abbrev pub stands : ℕ → Bool
stands c = (is_graphic c && not (nat_eq c 60)) || nat_eq c 10

-- a byte of JSON: as it is, or by JSON's escape of the character of its number
abbrev pub told_byte : ℕ → List ℕ
told_byte c = if stands c then c ∷ [] else codes "\\u00" ++ hex_digit_of (c / 16) ∷ hex_digit_of (c % 16) ∷ []

-- JSON, in which no tag begins
abbrev pub told_text : List ℕ → List ℕ
told_text json = flat_map told_byte json

-- the text is the page of JSON Lines: these between the parts of the template, and its script
pub record IsHtmlPage (json text : List ℕ) : Type 0 where
  pub is : text ≡ HEAD.now ++ told_text json ++ MIDDLE.now ++ SCRIPT.now ++ FOOT.now
