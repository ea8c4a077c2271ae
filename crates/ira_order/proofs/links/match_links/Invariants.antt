use Rattle.std.proofs.Common.{◌<◌, ℕ}
use Rattle.ira_order.specs.Matching.{LinkMatches}
use Rattle.ira_order.proofs.links.match_links.Given as goal

abbrev pub invariant-loop-link : goal.invariant-loop-link
invariant-loop-link g l = (j : ℕ) → j < l.link → LinkMatches l.logs j
