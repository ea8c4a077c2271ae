-- Lines of JSON on a ring.
use Rattle.std.specs.Prelude.{ℕ, Bool, List, Option}
use Rattle.ira_view.specs.ShownRing.{ShownRing}
use Rattle.ira_view.specs.declared.status.Status.{Status}

-- the ring, the places of the nodes that are to lead, if some are named, whether all events are told, and the status of
-- the yes
pub record JsonLines : Type 0 where
  pub ring : ShownRing
  pub named : Option (List ℕ)
  pub has_events : Bool
  pub status : Status
