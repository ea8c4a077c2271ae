use Rattle.std.proofs.Common.{◌≡◌, ℕ, ◌-◌, ◌≤◌, length}
use Rattle.std.specs.List.{All}
use Rattle.ira_ring_alone.specs.LoneNode.{GoesTo}
use Rattle.ira_ring_alone.proofs.lone_node.LoneNode.go_on.Given as goal

abbrev pub invariant-loop-nodes : goal.invariant-loop-nodes
invariant-loop-nodes g l = record {
  goes : (k : ℕ) × GoesTo l.nodes l.cap l.terms k l.initial.self l.self;
  state : l.state ≡ l.self.state;
  ids : All (λ d. (1 ≤ d) × (d ≤ l.nodes)) l.self.ids;
}

abbrev pub decreases-loop-nodes : goal.decreases-loop-nodes
decreases-loop-nodes g l = l.cap - length l.self.events
