use Rattle.std.proofs.Common.{◌≡◌, ℕ, ◌<◌, ◌≤◌}
use Rattle.ira_ring_alone.specs.LoneNode.{HasNoNext}
use Rattle.ira_ring_alone.specs.LoneRing.{node_at, IsReached}
use Rattle.ira_ring_alone.proofs.LoneTurnsOn.{measure}
use Rattle.ira_ring_alone.proofs.lone_ring.LoneRing.run.Given as goal

abbrev pub invariant-loop-least : goal.invariant-loop-least
invariant-loop-least g l = record {
  setup : l.self.setup.now ≡ l.fn.self.setup.now;
  reached : IsReached l.self.setup.now l.self.nodes.items;
  within : l.least ≤ l.self.setup.now.nodes;
  ended : (j : ℕ) → j < l.least
      → HasNoNext l.self.setup.now.nodes l.self.setup.now.cap l.self.setup.now.terms (node_at l.self.nodes.items j);
}

abbrev pub decreases-loop-least : goal.decreases-loop-least
decreases-loop-least g l = measure l.self.setup.now.nodes l.self.setup.now.cap l.self.nodes.items l.least
