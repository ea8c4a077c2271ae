use Rattle.std.proofs.Common.{◌≡◌, take}
use Rattle.ira_view_moment.specs.Totals.{capped_sum}
use Rattle.ira_view_moment.proofs.moment.Moment.totals.Given as goal

abbrev pub invariant-loop-node : goal.invariant-loop-node
invariant-loop-node g l = record {
  events : l.events ≡ capped_sum (λ p. p.events) (take l.node-index l.nodes);
  sent : l.sent ≡ capped_sum (λ p. p.sent) (take l.node-index l.nodes);
  received : l.received ≡ capped_sum (λ p. p.received) (take l.node-index l.nodes);
}
