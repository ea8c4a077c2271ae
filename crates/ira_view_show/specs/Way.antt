-- The lines on what is on its way.
use Rattle.std.specs.Prelude.{ℕ, ◌-◌, List, [], ◌∷◌, ◌++◌, Bool, codes, decimal, if◌then◌else◌, length}
use Rattle.std.specs.Prelude.{nat_eq, take}
use Rattle.std.specs.List.{enumerate_from, flat_map}
use Rattle.ira_event.specs.declared.load.Load.{Load}
use Rattle.ira_event.specs.LogText.{load_text}
use Rattle.ira_order.specs.Ring.{next}
use Rattle.ira_view_moment.specs.Totals.{capped_sum}
use Rattle.ira_view_show.specs.Listed.{comma_text, list_text}
use Rattle.ira_view_page.specs.Numbers.{more_text}

-- a load, with a comma before it where it isn't the first
abbrev pub listed_load : Bool → Load → List ℕ
listed_load is_first load = comma_text is_first ++ load_text load

-- at most six loads, and how many there are besides
abbrev pub loads_text : List Load → List ℕ
loads_text loads = list_text listed_load (take 6 loads) ++ more_text (length loads - 6)

-- the line of a link to a reader, where it holds something
abbrev pub link_text : ℕ → ℕ → List Load → List ℕ
link_text link reader [] = []
link_text link reader (l ∷ ls) =
    codes "  " ++ codes "link " ++ decimal link ++ codes ", node " ++ decimal link ++ codes " to " ++ decimal reader
    ++ codes ": "
    ++ loads_text (l ∷ ls)
    ++ codes "\n"

-- the same of a link with its number, in a ring of so many nodes
abbrev pub numbered_link_text : ℕ → ℕ × List Load → List ℕ
numbered_link_text nodes link = link_text link.0 (next nodes link.0) link.1

abbrev pub way_text : List (List Load) → List ℕ
way_text links =
    if nat_eq (capped_sum length links) 0 then codes "  " ++ codes "No message is on its way." ++ codes "\n"
    else codes "  " ++ codes "On their way, the next to be received first:" ++ codes "\n"
    ++ flat_map (numbered_link_text (length links)) (enumerate_from 0 links)
