-- What is drawn of the logs of a ring.
use Rattle.std.specs.Prelude.{◌≡◌, ℕ, ◌≤◌, List, [], Option, Some, length, slice_get, slice_index_or}
use Rattle.std.specs.Option.{option_map}
use Rattle.ira_event.specs.Log.{Log}
use Rattle.ira_node.specs.declared.node_state.NodeState.{NodeState}
use Rattle.ira_replay.specs.declared.replay_fault.ReplayFault.{ReplayFault}
use Rattle.ira_view_picture.specs.declared.after.After.{After}
use Rattle.ira_view_picture.specs.declared.arrow.Arrow.{Arrow}
use Rattle.ira_view_picture.specs.declared.band.Band.{Band}
use Rattle.ira_view_picture.specs.declared.band.Span.{Span}
use Rattle.ira_view_picture.specs.declared.lane.Lane.{Lane}
use Rattle.ira_view_picture.specs.declared.mark.Mark.{Mark}
use Rattle.ira_view_picture.specs.declared.window.Window.{Window}
use Rattle.ira_view_picture.specs.Arrow.{AreArrows}
use Rattle.ira_view_trail.specs.Columns.{AreColumnsOf, Columns, IsLastColumn, cut_or_all}
use Rattle.ira_view_picture.specs.Lane.{AreMarks, IsReplayed, IsStart}
use Rattle.ira_view_picture.specs.Window.{events_drawn}

-- of a node: how many events it has, what is known of it before those that are drawn, these, its bands and debts, its
-- last state that is known, and its first event without a step
pub record Drawn : Type 0 where
  pub events : ℕ
  pub start : After
  pub marks : List Mark
  pub bands : List Band
  pub debts : List Span
  pub end : NodeState
  pub first_fault : Option ReplayFault

-- what a lane shows
abbrev pub drawn_of : {Z : Type 0} → Lane Z → Drawn
drawn_of lane =
    record {
      events = lane.events;
      start = lane.start;
      marks = lane.marks.items;
      bands = lane.bands.items;
      debts = lane.debts.items;
      end = lane.end;
      first_fault = lane.first_fault;
    }

-- it is what is drawn of the node of this log
pub record IsDrawnOf (log : Log) (columns : List ℕ) (w : Window) (d : Drawn) : Type 0 where
  pub events : d.events ≡ length log.events
  pub start : IsStart log columns w (length log.events) d.start
  pub marks : AreMarks log columns w (length log.events) d.marks
  pub replayed : IsReplayed log (length log.events) d.end d.first_fault

-- that of each node
pub record AreLanes (logs : List Log) (table : List (List ℕ)) (w : Window) (ds : List Drawn) : Type 0 where
  pub places : length ds ≡ length logs
  pub each : (i : ℕ) (log : Log) (d : Drawn) → slice_get logs i ≡ Some log → slice_get ds i ≡ Some d
      → IsDrawnOf log (slice_index_or table i []) w d

-- with the columns of all events, of which this one is the last, and the line of the cut, where there is one, the lanes and
-- arrows are those of the window
pub record IsShown (logs : List Log) (cut : Option (List ℕ)) (w : Window) (last : ℕ) (line : Option ℕ)
    (lanes : List Drawn) (arrows : List Arrow) : Type 0 where
  pub columns : Columns
  pub columns_are : AreColumnsOf logs (cut_or_all logs cut) columns
  pub last_is : IsLastColumn columns.nodes last
  pub line_is : line ≡ option_map (λ _. columns.line) cut
  pub few : events_drawn w columns.nodes ≤ 20000
  pub are_lanes : AreLanes logs columns.nodes w lanes
  pub are_arrows : AreArrows logs columns.nodes w arrows
