-- The line of a moment.
use Rattle.std.specs.Prelude.{ℕ, ◌+◌, ◌-◌, Bool, true, false, ◌&&◌, ◌||◌, List, [], ◌++◌, Option, Some, None, codes, decimal}
use Rattle.std.specs.Prelude.{if◌then◌else◌, nat_eq, nat_lt}
use Rattle.std.specs.List.{enumerate_from, flat_map}
use Rattle.ira_pred.specs.Case.{Conjunct}
use Rattle.ira_pred.specs.QuestionText.{clause_text}
use Rattle.ira_view_picture.specs.declared.window.Window.{Window}
use Rattle.ira_view_picture.specs.Window.{is_in}
use Rattle.ira_view_draw.specs.Escaped.{told_words}
use Rattle.ira_view_draw.specs.Grid.{foot_of, picture_width, x_of, y_of}
use Rattle.ira_view_moment.specs.Told.{Told, at_cut, at_end, of_case, unmet}
use Rattle.ira_view_draw.specs.Svg.{attribute_text, down_text, number_text, tag_text}

-- the word before the number of a node, with a comma where it isn't the first
abbrev pub node_words : Bool → List ℕ
node_words true = codes "node "
node_words false = codes ", node "

-- what a case asks of a node, with its number in the case
abbrev pub asked_text : ℕ × Conjunct → List ℕ
asked_text (n, asked) =
    node_words (nat_eq n 0) ++ decimal asked.place ++ codes " " ++ clause_text asked.formula

-- what it asks of each node
abbrev pub case_words : List Conjunct → List ℕ
case_words case = flat_map asked_text (enumerate_from 0 case)

-- what is said of a moment: that it is here; of the first one of a case its number, and what it asks of each node
abbrev pub words_of_moment : Told → List ℕ
words_of_moment at_end = codes "here"
words_of_moment (at_cut events) = codes "here"
words_of_moment (of_case number case) = codes "case " ++ decimal number ++ codes " is met here: " ++ case_words case
words_of_moment (unmet number) = codes "here"

-- what the case asks of nodes whose first moment it is; nothing of another moment
abbrev pub asked_of : Told → List Conjunct
asked_of at_end = []
asked_of (at_cut events) = []
asked_of (of_case number case) = case
asked_of (unmet number) = []

-- the cut of the moment that has a line in a picture: the end of the logs has none, unless it is named
abbrev pub cut_with_line : Told → Option (List ℕ) → Option (List ℕ)
cut_with_line at_end cut = None
cut_with_line (at_cut events) cut = cut
cut_with_line (of_case number case) cut = cut
cut_with_line (unmet number) cut = cut

-- from where to where the line leads
abbrev pub line_top : ℕ
line_top = 74

abbrev pub line_end : ℕ → ℕ
line_end nodes = foot_of nodes + 18

-- what hasn't happened is pale, where the line isn't right of all columns
abbrev pub pale_text : ℕ → Window → ℕ → List ℕ
pale_text nodes w column =
    if is_in w column then tag_text (codes "rect") (codes "bg f") ++ number_text (codes "x") (x_of w column)
    ++ number_text (codes "y") line_top
    ++ number_text (codes "width") (picture_width w - x_of w column)
    ++ number_text (codes "height") (line_end nodes - line_top)
    ++ codes "/>\n" else []

-- the line at a column
abbrev pub line_text : ℕ → Window → ℕ → List ℕ
line_text nodes w column =
    tag_text (codes "path") (codes "h") ++ codes " d=\"" ++ down_text (x_of w column) line_top (line_end nodes)
    ++ codes "\"/>\n"

-- where its words stand at it
abbrev pub anchor_of : ℕ → List ℕ
anchor_of x = if nat_lt 336 x then codes "middle" else codes "start"

-- its words, above it
abbrev pub words_text : Window → ℕ → List ℕ → List ℕ
words_text w column words =
    tag_text (codes "text") (codes "ht") ++ number_text (codes "x") (x_of w column)
    ++ number_text (codes "y") (line_top - 5)
    ++ attribute_text (codes "text-anchor") (anchor_of (x_of w column))
    ++ codes ">"
    ++ told_words words
    ++ codes "</text>\n"

-- a ring on it at the lane of a node
abbrev pub ring_text : ℕ → Window → ℕ → ℕ → List ℕ
ring_text nodes w column place =
    tag_text (codes "circle") (codes "h bg") ++ number_text (codes "cx") (x_of w column)
    ++ number_text (codes "cy") (y_of nodes place)
    ++ number_text (codes "r") 5
    ++ codes "/>\n"

-- the same at each node that a case asks
abbrev pub rings_text : ℕ → Window → ℕ → List Conjunct → List ℕ
rings_text nodes w column case = flat_map (λ asked. ring_text nodes w column asked.place) case

-- the line of a moment at a column, with its words, and a ring for each node that its case asks
abbrev pub moment_text : ℕ → Window → ℕ → List ℕ → List Conjunct → List ℕ
moment_text nodes w column words case =
    pale_text nodes w column ++ line_text nodes w column ++ words_text w column words ++ rings_text nodes w column case

-- the line at a column is drawn: the column is, or is right of all of them where the last one is drawn
abbrev pub is_line_drawn : Window → ℕ → ℕ → Bool
is_line_drawn w last column = (nat_lt last column && nat_eq w.last last) || is_in w column

-- the line of a moment, if there is one, where it is drawn
abbrev pub line_of_moment : ℕ → Window → ℕ → Option ℕ → List ℕ → List Conjunct → List ℕ
line_of_moment nodes w last None words case = []
line_of_moment nodes w last (Some column) words case =
    if is_line_drawn w last column then moment_text nodes w column words case else []
