-- Why there is no picture.
use Rattle.std.specs.Prelude.{◌≡◌, ℕ, ◌<◌, ⊤, List, Option}
use Rattle.ira_event.specs.Log.{Log}
use Rattle.ira_view_picture.specs.declared.draw_fault.DrawFault.{DrawFault}
use Rattle.ira_view_picture.specs.declared.draw_fault.DrawFault.TheVariants.{OutOfMemory, TooManyEvents, WrongColumns}
use Rattle.ira_view_trail.specs.declared.columns_fault.ColumnsFault.{ColumnsFault}
use Rattle.ira_view_trail.specs.declared.columns_fault.ColumnsFault.TheVariants as columns
use Rattle.ira_view_trail.specs.Columns.{AreColumnsOf, Columns, IsLastColumn, cut_or_all}
use Rattle.ira_view_picture.specs.Window.{asked_window, events_drawn}

-- there are so many events, and these are too many for a picture; or their columns aren't right, or memory ran out
abbrev pub IsDrawFault : DrawFault → Type 0
IsDrawFault (TooManyEvents events) = 20000 < events
IsDrawFault WrongColumns = ⊤
IsDrawFault OutOfMemory = ⊤

-- the fault where there are no columns
abbrev pub no_columns : ColumnsFault → DrawFault
no_columns columns.Wrong = WrongColumns
no_columns columns.OutOfMemory = OutOfMemory

-- at the columns that are asked for the logs have so many events, too many for a picture; the columns are those in which
-- the events of the cut, if there is one, come before all others
pub record HasTooManyEvents (logs : List Log) (cut : Option (List ℕ)) (from to : Option ℕ) (events : ℕ) : Type 0 where
  pub columns : Columns
  pub columns_are : AreColumnsOf logs (cut_or_all logs cut) columns
  pub last : ℕ
  pub last_is : IsLastColumn columns.nodes last
  pub number : events ≡ events_drawn (asked_window from to last) columns.nodes
  pub many : 20000 < events
