-- The lines on states that are ruled out.
use Rattle.std.specs.Prelude.{ℕ, ◌+◌, ◌-◌, ◌%◌, List, ◌++◌, Option, None, Some, codes, decimal, if◌then◌else◌, length}
use Rattle.std.specs.Prelude.{nat_eq, slice_get}
use Rattle.ira_event.specs.declared.event.Event.{Event}
use Rattle.ira_event.specs.Log.{Log}
use Rattle.ira_order.specs.Ring.{log_of, numbered}
use Rattle.ira_view_evidence.specs.declared.elimination.Elimination.{Elimination}
use Rattle.ira_view_page.specs.declared.named_text.NamedText.{NamedText}
use Rattle.ira_view_page.specs.Numbers.{number_of_text}
use Rattle.ira_view_page.specs.Places.{place_text, record_text}

-- the name of a node's file; a dash where there is none
abbrev pub name_of : Option NamedText → List ℕ
name_of None = codes "-"
name_of (Some file) = file.name.now

-- the line of an event, and its record where the log has it
abbrev pub line_text : List ℕ → ℕ → Option Event → List ℕ
line_text file position None = place_text file (position + 4)
line_text file position (Some event) = record_text file position event

-- the same of an event of a node, in brackets
abbrev pub bracket_text : List NamedText → List Log → ℕ → ℕ → List ℕ
bracket_text files logs node position =
    codes " (" ++ line_text (name_of (slice_get files node)) position (numbered (log_of logs node) position)
    ++ codes ")"

-- one state, or several from the first to the last
abbrev pub states_text : ℕ → ℕ → List ℕ
states_text first last =
    (if nat_eq first last then codes " state " else codes " states " ++ decimal first ++ codes " to ") ++ decimal last

-- how many links lead from a node to another one, in a ring of so many
abbrev pub links_between : ℕ → ℕ → ℕ → ℕ
links_between nodes from to = (nodes + to - from) % nodes

-- which states of a node are ruled out: they are over by an event
abbrev pub over_text : List NamedText → List Log → Elimination → List ℕ
over_text files logs e =
    codes "    node " ++ decimal e.node ++ states_text e.first e.last ++ codes ": over by event "
    ++ decimal (e.last + 1)
    ++ bracket_text files logs e.node (e.last + 1)
    ++ codes ","
    ++ codes "\n"

-- before which event of another node that one happened, and how many messages part them
abbrev pub by_text : List NamedText → List Log → Elimination → List ℕ
by_text files logs e =
    codes "      which happened before event " ++ decimal e.other_pos ++ codes " of node " ++ decimal e.other
    ++ bracket_text files logs e.other e.other_pos
    ++ codes ", by "
    ++ number_of_text (links_between (length logs) e.node e.other) (codes "message")
    ++ codes "\n"

-- which states are ruled out, and why
abbrev pub elimination_text : List NamedText → List Log → Elimination → List ℕ
elimination_text files logs e = over_text files logs e ++ by_text files logs e
