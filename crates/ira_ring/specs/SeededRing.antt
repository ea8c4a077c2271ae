-- Rings whose first nodes are initiators and whose nodes draw from a seed.
use Rattle.std.specs.Prelude.{◌≡◌, ℕ, List, Bool, Some, map, nat_lt, slice_get}
use Rattle.std.specs.List.{range_with_len}
use Rattle.ira_ring_alone.specs.SeededRun.{seeded}
use Rattle.ira_ring_setup.specs.Setup.{Setup}
use Rattle.ira_ring_setup.specs.declared.node_end.NodeEnd.{NodeEnd}
use Rattle.ira_ring_setup.specs.declared.node_end.NodeEnd.TheVariants.{Leader}
use Rattle.ira_ring.specs.declared.seeded_ring.SeededRing.{SeededRing}

-- whether each node is an initiator: the first ones are
abbrev pub first_initiators : SeededRing → List Bool
first_initiators ring = map (λ i. nat_lt i ring.initiators) (range_with_len 0 ring.nodes)

-- the setup of the ring
abbrev pub setup_of : SeededRing → Setup
setup_of ring = seeded ring.nodes (first_initiators ring) ring.seed ring.draws ring.cap ring.terms

-- a node ended as the leader
abbrev pub HasLeader : List NodeEnd → Type 0
HasLeader ends = (i : ℕ) × (slice_get ends i ≡ Some Leader)
