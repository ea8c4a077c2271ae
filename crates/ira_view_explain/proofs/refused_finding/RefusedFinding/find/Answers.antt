use Rattle.std.proofs.Common.{◌≡◌, ◌∙◌, List, subst, sym}
use Rattle.ira_event.specs.Log.{Log}
use Rattle.ira_audit.specs.RefusedLogs.{AreRefused, IsReasonOf, RefusedLogs}
use Rattle.ira_audit.specs.declared.reason.Reason.{Reason}
use Rattle.ira_audit.specs.declared.reason.Reason.TheVariants.{Circle, Match}
use Rattle.ira_view_explain.proofs.refused_finding.RefusedFinding.find.Goals as goal

-- a reason that was given is the one against the logs that were given
reason_of : (refused : RefusedLogs) (logs : List Log) (given r : Reason) → AreRefused refused → logs ≡ refused.logs
    → given ≡ refused.reason → given ≡ r → IsReasonOf logs r
reason_of refused logs given r are same value is =
    subst (λ (ls : List Log). IsReasonOf ls r) (sym same)
    (subst (λ (x : Reason). IsReasonOf refused.logs x) (sym value ∙ is) are.reason)

pub of_fault-requires : goal.of_fault-requires
of_fault-requires g c =
    reason_of c.args.refused.now c.args.ring.now.logs.now c.reason.result (Match c.in-Match.fault) c.requires.refused
    c.requires.logs c.reason.ensures.value c.in-Match.is

pub unreachable-requires : goal.unreachable-requires
unreachable-requires g c =
    let circle = reason_of c.args.refused.now c.args.ring.now.logs.now c.reason.result Circle c.requires.refused
    c.requires.logs c.reason.ensures.value c.in-Circle.is in
    let order = rw c.in-None.is at c.in_ok-circle-in-Circle.ensures in
    circle.1 order.1 order.2
