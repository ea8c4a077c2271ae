-- Runs that are asked for.
use Rattle.ira_ring.specs.declared.seeded_ring.SeededRing.{SeededRing}
use Rattle.ira_commands.specs.declared.asked_run.AskedRun.{AskedRun}

-- the ring of one
abbrev pub ring_of : AskedRun → SeededRing
ring_of asked = record {
  nodes = asked.nodes;
  initiators = asked.initiators;
  seed = asked.seed;
  draws = asked.draws;
  cap = asked.cap;
  terms = asked.terms;
}
