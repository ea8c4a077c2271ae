use Rattle.std.proofs.Common.{◌≡◌, ◌≤◌, replicate, None}
use Rattle.std.specs.Prelude.{vec_capacity, vec_len}
use Rattle.ira_ring_setup.proofs.collector.Collector.new.Given as goal

abbrev pub invariant-loop : goal.invariant-loop
invariant-loop g l = record {
  room : l.fn.nodes ≤ vec_capacity l.taken;
  number : vec_len l.taken ≡ l.counter;
  taken : l.taken.items ≡ replicate l.counter None;
}
