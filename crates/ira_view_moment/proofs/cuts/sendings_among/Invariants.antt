use Rattle.std.proofs.Common.{◌≡◌, length, take}
use Rattle.ira_order.specs.Matching.{sent}
use Rattle.ira_view_moment.proofs.cuts.sendings_among.Given as goal

abbrev pub invariant-loop-k : goal.invariant-loop-k
invariant-loop-k g l = l.sendings ≡ length (sent (take l.k l.log.events))
