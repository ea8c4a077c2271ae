use Rattle.std.proofs.Common.{arith, subst}
use Rattle.ira_event.specs.Logs.{AreLogs}
use Rattle.ira_order.proofs.Acyclic.{before_within}
use Rattle.ira_order.proofs.Bridge.{before_places}
use Rattle.ira_view_evidence.proofs.StuckNodes.{few_events}
use Rattle.ira_view_page.proofs.Adding.{◌&◌}
use Rattle.ira_view_explain_question.proofs.asked_ring.AskedRing.print_over.Goals as goal

pub overflow_add-over : goal.overflow_add-over
overflow_add-over g c =
    let logs = c.args.self.now.asked.now.logs in
    let node = (before_places logs _ _ _ _ c.requires).0 in
    let within = before_within logs _ _ _ _ c.requires in
    let few = few_events logs c.args.elimination.node
    (subst AreLogs c.logs.ensures.value c.size-ring.ensures.valid) node in
    omega (arith, within.1, few)

pub returns : goal.returns
returns g c =
    c.begin.ensures & c.numbered.ensures & c.print_states.ensures & c.words.ensures & c.number.ensures
    & c.print_event.ensures & c.words-2.ensures & c.end.ensures
