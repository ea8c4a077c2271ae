use Rattle.std.proofs.Common.{◌≡◌, ◌≤◌, ◌-◌, ◌++◌}
use Rattle.std.specs.Prelude.{map, vec_len, vec_capacity}
use Rattle.rand_core.specs.Steps.{first_words}
use Rattle.rand_pcg.specs.Pcg.{pcg32}
use Rattle.ira_ring_setup.specs.Draws.{id_of_word, draws}
use Rattle.ira_ring_setup.proofs.draws.draw_list.Given as goal

abbrev pub invariant-loop : goal.invariant-loop
invariant-loop g l = record {
  room : l.fn.k ≤ vec_capacity l.list;
  number : vec_len l.list ≡ l.counter;
  draws : l.list.items ++ map (id_of_word l.fn.nodes) (first_words pcg32 (l.fn.k - l.counter) l.words)
      ≡ draws l.fn.nodes l.fn.seed l.fn.place l.fn.k;
}
