-- What a picture is as JSON.
use Rattle.std.specs.Prelude.{ℕ, List, Option, Some, None, codes, map}
use Rattle.json.specs.Json.{Json, Members, array, no_members, object, string}
use Rattle.json.specs.Value.{items_of}
use Rattle.ira_node.specs.StepFault.{step_fault_words}
use Rattle.ira_pred.specs.Case.{Conjunct}
use Rattle.ira_pred.specs.QuestionText.{clause_text}
use Rattle.ira_replay.specs.declared.replay_fault.ReplayFault.{ReplayFault}
use Rattle.ira_view_moment.specs.Told.{Told, at_cut, at_end, of_case, unmet}
use Rattle.ira_view_page.specs.Words.{event_text}
use Rattle.ira_view_picture.specs.Picture.{Drawn}
use Rattle.ira_view_picture.specs.declared.after.After.{After}
use Rattle.ira_view_picture.specs.declared.after.After.TheVariants as after
use Rattle.ira_view_picture.specs.declared.arrow.Arrow.{Arrow}
use Rattle.ira_view_picture.specs.declared.arrow.Passage.{Passage}
use Rattle.ira_view_picture.specs.declared.arrow.Passage.TheVariants.{Backward, Differs, Dropped, NotReceived, NotSent}
use Rattle.ira_view_picture.specs.declared.arrow.Passage.TheVariants.{OnLap, Taken}
use Rattle.ira_view_picture.specs.declared.band.Band.{Band}
use Rattle.ira_view_picture.specs.declared.band.BandKind.{BandKind}
use Rattle.ira_view_picture.specs.declared.band.BandKind.TheVariants as kind
use Rattle.ira_view_picture.specs.declared.band.Span.{Span}
use Rattle.ira_view_picture.specs.declared.mark.Mark.{Mark}
use Rattle.ira_view_picture.specs.declared.window.Window.{Window}
use Rattle.ira_view_json.specs.Members.{put, with_number, with_words}
use Rattle.ira_view_json.specs.StateValue.{with_load, with_state}

-- members, and what is known of a node: its state, or that the event has no step, or an earlier one
abbrev pub with_after : After → Members → Members
with_after (after.State s) members = with_state s members
with_after after.NoStep members = with_words (codes "phase") (codes "no step") members
with_after after.Unknown members = with_words (codes "phase") (codes "no state") members

abbrev pub after_value : After → Json
after_value a = object (with_after a no_members)

-- members, and an event: its number in the log, its column, its record, and what is known of the node after it
abbrev pub with_mark : Mark → Members → Members
with_mark m members =
    with_after m.after
    (with_words (codes "record") (event_text m.event)
    (with_number (codes "column") m.column (with_number (codes "event") m.position members)))

abbrev pub mark_value : Mark → Json
mark_value m = object (with_mark m no_members)

-- members, and a column, where there is one
abbrev pub with_column : List ℕ → Option ℕ → Members → Members
with_column key (Some column) members = with_number key column members
with_column key None members = members

-- members, and from which column to which, where it doesn't lead to the right edge
abbrev pub with_span : Span → Members → Members
with_span s members = with_column (codes "to") s.to (with_number (codes "from") s.from members)

abbrev pub span_value : Span → Json
span_value s = object (with_span s no_members)

abbrev pub kind_word : BandKind → List ℕ
kind_word kind.Unknown = codes "no state"
kind_word kind.Passive = codes "passive"
kind_word kind.Active = codes "active"
kind_word kind.Choosing = codes "choosing"
kind_word kind.Yielding = codes "yielding"
kind_word kind.Leader = codes "leader"

abbrev pub band_value : Band → Json
band_value b = object (with_span b.span (with_words (codes "kind") (kind_word b.kind) no_members))

-- members, and the first event without a step, where there is one
abbrev pub with_fault : Option ReplayFault → Members → Members
with_fault (Some f) members =
    with_words (codes "fault") (step_fault_words f.fault) (with_number (codes "no_step") f.position members)
with_fault None members = members

-- what is drawn of a node
abbrev pub lane_value : Drawn → Json
lane_value d =
    object
    (with_fault d.first_fault
    (put (codes "end") (object (with_state d.end no_members))
    (put (codes "debts") (array (items_of (map span_value d.debts)))
    (put (codes "bands") (array (items_of (map band_value d.bands)))
    (put (codes "marks") (array (items_of (map mark_value d.marks)))
    (put (codes "start") (after_value d.start)
    (with_number (codes "events") d.events no_members)))))))

abbrev pub passage_word : Passage → List ℕ
passage_word Taken = codes "taken"
passage_word Dropped = codes "dropped"
passage_word OnLap = codes "on lap"
passage_word Differs = codes "differs"
passage_word Backward = codes "backward"
passage_word NotReceived = codes "not received"
passage_word NotSent = codes "not sent"

-- an arrow: its link, the columns of its ends, what became of what it carries, and that
abbrev pub arrow_value : Arrow → Json
arrow_value a =
    object
    (with_load a.load
    (with_words (codes "passage") (passage_word a.passage)
    (with_column (codes "received") a.received
    (with_column (codes "sent") a.sent (with_number (codes "link") a.link no_members)))))

-- members, and the columns that are drawn, the last one of all, and that of the line of a moment, where there is one
abbrev pub with_window : Window → ℕ → Option ℕ → Members → Members
with_window w last line members =
    with_column (codes "line") line
    (with_number (codes "of") last (with_number (codes "last") w.last (with_number (codes "first") w.first members)))

-- what a case asks of a node
abbrev pub asked_value : Conjunct → Json
asked_value asked =
    object (put (codes "clause") (string (clause_text asked.formula)) (with_number (codes "node") asked.place no_members))

-- members, and of the first moment of a case what that asks
abbrev pub with_asked : Told → Members → Members
with_asked at_end members = members
with_asked (at_cut events) members = members
with_asked (of_case number case) members = put (codes "asks") (array (items_of (map asked_value case))) members
with_asked (unmet number) members = members

-- members, and the nodes in the order of their places, and all arrows
abbrev pub with_parts : List Drawn → List Arrow → Members → Members
with_parts lanes arrows members =
    put (codes "arrows") (array (items_of (map arrow_value arrows)))
    (put (codes "lanes") (array (items_of (map lane_value lanes))) members)

-- a picture of these columns, of which this is the last of all, with the line of a moment, where it has one
abbrev pub picture_value : Window → ℕ → Option ℕ → Told → List Drawn → List Arrow → Json
picture_value w last line told lanes arrows =
    object (with_parts lanes arrows (with_asked told (with_window w last line
    (with_words (codes "type") (codes "picture") no_members))))
