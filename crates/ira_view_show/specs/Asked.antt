-- What was asked for: cuts and cases.
use Rattle.std.specs.Prelude.{ℕ, List, ◌++◌, Bool, codes, decimal}
use Rattle.std.specs.List.{flat_map}
use Rattle.ira_pred.specs.Case.{Conjunct}
use Rattle.ira_pred.specs.QuestionText.{clause_text}
use Rattle.ira_view_show.specs.Listed.{comma_text, list_text}

-- how many events a node has made
abbrev pub position_text : ℕ → List ℕ
position_text position = codes " " ++ decimal position

-- the line that stands where a cut ends
abbrev pub line_of_cut : List ℕ → List ℕ
line_of_cut cut = codes "  " ++ codes "-- here:" ++ flat_map position_text cut ++ codes " --" ++ codes "\n"

-- what is asked of a node, with a comma before it where it isn't the first
abbrev pub conjunct_text : Bool → Conjunct → List ℕ
conjunct_text is_first c = comma_text is_first ++ decimal c.place ++ codes ": " ++ clause_text c.formula

-- what a case asks of each node
abbrev pub case_text : List Conjunct → List ℕ
case_text conjuncts = list_text conjunct_text conjuncts
