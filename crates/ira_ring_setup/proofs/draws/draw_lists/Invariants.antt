use Rattle.std.proofs.Common.{◌≡◌, ℕ, ◌≤◌}
use Rattle.std.specs.Prelude.{IfSome, slice_get, vec_len, vec_capacity}
use Rattle.ira_ring_setup.specs.Draws.{draws}
use Rattle.ira_ring_setup.proofs.draws.draw_lists.Given as goal

abbrev pub invariant-loop-place : goal.invariant-loop-place
invariant-loop-place g l = record {
  room : l.fn.nodes ≤ vec_capacity l.lists;
  number : vec_len l.lists ≡ l.place;
  lists : (place : ℕ) → IfSome (slice_get l.lists.items place) (λ list. list.items
      ≡ draws l.fn.nodes l.fn.seed place l.fn.k);
}
