-- The logs and the ends of a ring's nodes.
use Rattle.std.specs.Prelude.{◌≡◌, List, length}
use Rattle.ira_event.specs.Log.{Log}
use Rattle.ira_event.specs.Logs.{AreLogs}
use Rattle.ira_ring_setup.specs.declared.node_end.NodeEnd.{NodeEnd}

-- what the nodes of a ring wrote down, and how each of them ended, in the order of their places
pub record Run : Type 0 where
  pub logs : List Log
  pub ends : List NodeEnd

-- they are the logs of one ring, and there are as many ends as logs
pub record IsRun (run : Run) : Type 0 where
  pub logs : AreLogs run.logs
  pub ends : length run.ends ≡ length run.logs
