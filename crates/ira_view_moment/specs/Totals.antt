-- What the events of all nodes come to.
use Rattle.std.specs.Prelude.{ℕ, ◌-◌, ◌^◌, List, min}
use Rattle.std.specs.List.{sum_by}
use Rattle.ira_view_moment.specs.Moment.{Moment}
use Rattle.ira_view_moment.specs.declared.totals.Totals.{Totals}

-- a sum, of which the last u64 stands for itself and everything above
abbrev pub capped_sum : {X : Type 0} → (X → ℕ) → List X → ℕ
capped_sum f xs = min (sum_by f xs) (2 ^ 64 - 1)

-- how many events, sendings and receipts there are
abbrev pub totals_of : Moment → Totals
totals_of m = record {
  events = capped_sum (λ p. p.events) m.nodes;
  sent = capped_sum (λ p. p.sent) m.nodes;
  received = capped_sum (λ p. p.received) m.nodes;
}
