-- The marks of events, in the lanes of their nodes.
use Rattle.std.specs.Prelude.{ℕ, ◌-◌, List, [], ◌++◌, codes, decimal, if◌then◌else◌, nat_lt}
use Rattle.std.specs.List.{enumerate_from, flat_map}
use Rattle.ira_event.specs.declared.event.Event.{Event}
use Rattle.ira_event.specs.declared.event.Event.TheVariants.{Draw, Sent, Got, Yield}
use Rattle.ira_view_page.specs.Words.{event_text, state_text}
use Rattle.ira_view_picture.specs.declared.after.After.{After}
use Rattle.ira_view_picture.specs.declared.after.After.TheVariants.{State, NoStep, Unknown}
use Rattle.ira_view_picture.specs.declared.mark.Mark.{Mark}
use Rattle.ira_view_picture.specs.declared.window.Window.{Window}
use Rattle.ira_view_picture.specs.Picture.{Drawn}
use Rattle.ira_view_draw.specs.Grid.{foot_of, x_of, y_of}
use Rattle.ira_view_draw.specs.Svg.{dot_text, event_name, once_more_text, square_text, tag_text}

-- the class of an event's mark: a draw has one
abbrev pub mark_class : Event → List ℕ
mark_class (Draw id) = codes "d"
mark_class (Sent load) = []
mark_class (Got load) = []
mark_class Yield = []

-- what an event's mark looks like at a place: a draw is a square, each other event a dot
abbrev pub shape_text : Event → ℕ → ℕ → List ℕ
shape_text (Draw id) x y = square_text x y
shape_text (Sent load) x y = dot_text x y
shape_text (Got load) x y = dot_text x y
shape_text Yield x y = dot_text x y

-- what is known of a node after an event
abbrev pub after_text : After → List ℕ
after_text (State state) = state_text state
after_text NoStep = codes "no step"
after_text Unknown = codes "no state"

-- for those who point at it: which event of which node it is, its record, and what is known after it
abbrev pub title_text : ℕ → Mark → List ℕ
title_text place m =
    codes "<title>node " ++ decimal place ++ codes " event " ++ decimal m.position ++ codes ": " ++ event_text m.event
    ++ codes "\n"
    ++ after_text m.after
    ++ codes "</title>"

-- the mark of an event of a node of a ring of so many, at the place of its column in the node's lane
abbrev pub mark_text : ℕ → Window → ℕ → Mark → List ℕ
mark_text nodes w place m =
    tag_text (codes "path") (mark_class m.event) ++ event_name (codes "data-at") place m.position ++ codes " d=\""
    ++ shape_text m.event (x_of w m.column) (y_of nodes place)
    ++ codes "\">"
    ++ title_text place m
    ++ codes "</path>\n"

-- the marks of a node
abbrev pub lane_text : ℕ → Window → ℕ × Drawn → List ℕ
lane_text nodes w (place, drawn) =
    tag_text (codes "g") (codes "e") ++ codes " id=\"e" ++ decimal place ++ codes "\">\n"
    ++ flat_map (mark_text nodes w place) drawn.marks
    ++ codes "</g>\n"

-- those of node 0 once more below the last lane, but for two nodes
abbrev pub below_text : ℕ → List ℕ
below_text nodes =
    if nat_lt 2 nodes then once_more_text (codes "#e0") (foot_of nodes - 96) (codes ".45") else []

-- the marks of all nodes
abbrev pub marks_text : ℕ → Window → List Drawn → List ℕ
marks_text nodes w lanes = flat_map (lane_text nodes w) (enumerate_from 0 lanes) ++ below_text nodes
