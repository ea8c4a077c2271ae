use Rattle.std.proofs.Common.{◌∙◌, subst, sym}
use Rattle.ira_audit.specs.RefusedLogs.{IsReasonOf}
use Rattle.ira_view_draw.proofs.highlight.highlights.Goals as goal

pub sides_of_fault-requires : goal.sides_of_fault-requires
sides_of_fault-requires g c =
    rw c.logs.ensures.value
    (subst (IsReasonOf c.args.refused.now.logs) (sym c.reason.ensures.value ∙ c.in-Match.is)
    c.reason.ensures.refused.reason)

pub find-requires : goal.find-requires
find-requires g c =
    rw c.logs-in-Circle.ensures.value
    (subst (IsReasonOf c.args.refused.now.logs) (sym c.reason.ensures.value ∙ c.in-Circle.is)
    c.reason.ensures.refused.reason).0

pub highlights_of_node-requires-clause-order : goal.highlights_of_node-requires-clause-order
highlights_of_node-requires-clause-order g c =
    (subst (IsReasonOf c.args.refused.now.logs) (sym c.reason.ensures.value ∙ c.in-Replay.is)
    c.reason.ensures.refused.reason).0

pub highlights_of_node-requires-clause-named : goal.highlights_of_node-requires-clause-named
highlights_of_node-requires-clause-named g c =
    let named = (subst (IsReasonOf c.args.refused.now.logs) (sym c.reason.ensures.value ∙ c.in-Replay.is)
    c.reason.ensures.refused.reason).1 in
    record { log = named.log; log_is = named.at; fault = named.fault }
