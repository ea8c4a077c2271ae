use Rattle.std.proofs.Common.{◌≡◌, ◌≤◌, ◌<◌, ◌⊎◌, ℕ, Contains, get_or}
use Rattle.ira_order.specs.DirectDependencies.{distance}
use Rattle.ira_elim.proofs.elimination.nearest_place.Given as goal

abbrev pub invariant-loop-other : goal.invariant-loop-other
invariant-loop-other l = record {
  one : (l.nearest ≡ l.place) ⊎ Contains l.asked l.nearest;
  least : (k : ℕ) → k < l.other-index
      → distance l.nodes l.nearest l.place ≤ distance l.nodes (get_or l.asked k 0) l.place;
  within : l.nearest < l.nodes;
}
