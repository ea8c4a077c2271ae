-- Parts of the line of an event.
use Rattle.std.specs.Prelude.{ℕ, ◌-◌, List, [], ◌++◌, Option, Some, None, codes, decimal, length}
use Rattle.ira_view_show.specs.Change.{change_text}
use Rattle.ira_view_show.specs.declared.change.Change.{Change}
use Rattle.ira_view_show.specs.declared.change.Change.TheVariants.{State, Owes, Dropped, Paid}
use Rattle.ira_view_page.specs.Page.{spaces}

-- a number at the end of a column that is so wide
abbrev pub number_in : ℕ → ℕ → List ℕ
number_in width n = spaces (width - length (decimal n)) ++ decimal n

-- the step of the sending that was received, if there is one
abbrev pub sender_part : ℕ → Option ℕ → List ℕ
sender_part room None = []
sender_part room (Some step) = spaces room ++ codes "  of step " ++ decimal step

-- what an event changed, if there are words for it
abbrev pub change_part : ℕ → Change → List ℕ
change_part room (State state) = spaces room ++ codes "  " ++ change_text (State state)
change_part room (Owes load) = spaces room ++ codes "  " ++ change_text (Owes load)
change_part room Dropped = spaces room ++ codes "  " ++ change_text Dropped
change_part room Paid = []
