-- Elements of a picture, as XML spells them.
use Rattle.std.specs.Prelude.{ℕ, ◌-◌, List, [], ◌∷◌, ◌++◌, codes, decimal}
use Rattle.ira_view_draw.specs.Escaped.{escaped}

-- an attribute of these words
abbrev pub attribute_text : List ℕ → List ℕ → List ℕ
attribute_text name value = codes " " ++ name ++ codes "=\"" ++ escaped value ++ codes "\""

-- an attribute that is a number
abbrev pub number_text : List ℕ → ℕ → List ℕ
number_text name value = codes " " ++ name ++ codes "=\"" ++ decimal value ++ codes "\""

-- an attribute that names an event: its node, and its number in the log
abbrev pub event_name : List ℕ → ℕ → ℕ → List ℕ
event_name name place position =
    codes " " ++ name ++ codes "=\"" ++ decimal place ++ codes "." ++ decimal position ++ codes "\""

-- the class of an element, where it has one
abbrev pub class_text : List ℕ → List ℕ
class_text [] = []
class_text (c ∷ cs) = attribute_text (codes "class") (c ∷ cs)

-- how the tag of an element begins
abbrev pub tag_text : List ℕ → List ℕ → List ℕ
tag_text element class = codes "<" ++ element ++ class_text class

-- how words at a place begin
abbrev pub words_tag : List ℕ → ℕ → ℕ → List ℕ
words_tag class x y =
    tag_text (codes "text") class ++ number_text (codes "x") x ++ number_text (codes "y") y ++ codes ">"

-- how a line of a path begins
abbrev pub move_text : ℕ → ℕ → List ℕ
move_text x y = codes "M" ++ decimal x ++ codes " " ++ decimal y

-- a line down a column
abbrev pub down_text : ℕ → ℕ → ℕ → List ℕ
down_text x y to = move_text x y ++ codes "V" ++ decimal to

-- a line of which only the round ends are seen
abbrev pub dot_text : ℕ → ℕ → List ℕ
dot_text x y = move_text x y ++ codes "h.1"

-- a line as long as it is wide, with its middle at a place
abbrev pub square_text : ℕ → ℕ → List ℕ
square_text x y = move_text (x - 4) y ++ codes "h8"

-- an element once more, so much lower and paler
abbrev pub once_more_text : List ℕ → ℕ → List ℕ → List ℕ
once_more_text element below opacity =
    codes "<use" ++ attribute_text (codes "href") element ++ number_text (codes "y") below
    ++ attribute_text (codes "stroke-opacity") opacity
    ++ codes "/>\n"
