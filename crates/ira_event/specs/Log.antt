-- The log of one node.
use Rattle.std.specs.Prelude.{◌≡◌, ℕ, ◌<◌, ◌≤◌, Bool, true, List, length}
use Rattle.std.specs.List.{list_all}
use Rattle.ira_event.specs.Limits.{MAX_RECORDS}
use Rattle.ira_event.specs.declared.event.Event.{Event}
use Rattle.ira_event.specs.Event.{is_event, is_of_version}
use Rattle.ira_event.specs.RingSize.{IsRingSize, FitsVersion}
use Rattle.ira_event.specs.Version.{IsVersion}

-- what one node wrote down: the log's version, its ring's size, its place on the ring, whether it is an initiator, and
-- its events in their order
pub record Log : Type 0 where
  pub version : ℕ
  pub nodes : ℕ
  pub place : ℕ
  pub initiator : Bool
  pub events : List Event

-- a version, a ring size that logs of it may have, a place on that ring (from 0), and events of that version within
-- the limits
pub record IsLog (log : Log) : Type 0 where
  pub version : IsVersion log.version
  pub size : IsRingSize log.nodes
  pub fits : FitsVersion log.version log.nodes
  pub place : log.place < log.nodes
  pub count : length log.events ≤ MAX_RECORDS
  pub numbers : list_all is_event log.events ≡ true
  pub held : list_all (is_of_version log.version) log.events ≡ true
