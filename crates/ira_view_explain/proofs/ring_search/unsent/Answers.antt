use Rattle.std.proofs.Common.{◌+◌, rules}
use Rattle.ira_view_evidence.proofs.Fronts.{whole_rest}
use Rattle.ira_view_explain.proofs.RingHints.{unsent_at}
use Rattle.ira_view_explain.proofs.ring_search.unsent.Goals as goal

pub returns-then-begins_with : goal.returns-then-begins_with
returns-then-begins_with c =
    let after = whole_rest c.args.received.now (c.first_difference-at.result + 1) in
    let rest = whole_rest c.args.sent.now c.first_difference-at.result in
    unsent_at c.args.sent.now c.args.received.now c.first_difference-at.result _
    c.first_difference-at.ensures.alike c.if-at-received.true (rw (after, rest) at (c.begins_with.ensures (search rules)))
