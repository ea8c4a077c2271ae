use Rattle.std.proofs.Common.{rules}
use Rattle.ira_view_explain.proofs.RingHints.{begins_from}
use Rattle.ira_view_explain.proofs.ring_search.begins_with.Goals as goal

pub returns : goal.returns
returns c =
    λ yes. begins_from c.args.loads.now c.args.front.now c.first_difference.result (search rules)
    c.first_difference.ensures.alike
