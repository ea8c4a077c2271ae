use Rattle.ira_view_evidence.proofs.Fronts.{goes_from, goes_to, whole_rest}
use Rattle.ira_view_evidence.proofs.link_cause.goes_on.Goals as goal

pub returns : goal.returns
returns c =
    let s = whole_rest c.args.sent.now c.args.skipped in
    let r = whole_rest c.args.received.now c.args.passed in
    let e = rw (s, r) at c.begins_with.ensures in
    (λ yes. goes_from _ _ _ _ c.if-sent-skipped.false c.if-received-passed.false (e.0 yes), λ g. e.1 (goes_to _ _ _ _ g))
