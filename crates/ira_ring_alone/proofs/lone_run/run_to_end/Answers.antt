use Rattle.std.proofs.Common.{◌≡◌, ◌∙◌, length, refl, sym, subst, ap, arith}
use Rattle.ira_event.specs.Logs.{AreLogs}
use Rattle.ira_ring_setup.specs.Setup.{Setup, KeepsRules}
use Rattle.ira_ring_alone.specs.LoneRing.{AreLogsOfNodes}
use Rattle.ira_ring_setup.specs.ShownEnd.{IsLoneRun}
use Rattle.ira_ring_alone.proofs.LoneRuns.{are_logs, is_lone_run}
use Rattle.ira_ring_alone.proofs.lone_run.run_to_end.Goals as goal

pub unreachable-requires : goal.unreachable-requires
unreachable-requires g c =
    let same : c.run.new.self.setup.now ≡ c.args.setup.now = c.in_ok-run.ensures.setup ∙ c.in_ok-ring.ensures.setup in
    let logs : AreLogs c.in_ok-into_logs.field-0.items =
    are_logs c.run.new.self.setup.now c.run.new.self.nodes.items c.in_ok-into_logs.field-0.items
    (subst KeepsRules (sym same) c.requires) c.in_ok-run.ensures.done.0 c.in_ok-into_logs.ensures in
    c.in_default.not-Ok c.in_ok-into_logs.field-0.items
    ((c.gather.ensures.ok c.in_ok-into_logs.field-0.items).1 (refl, logs))

pub of_parts-requires : goal.of_parts-requires
of_parts-requires g c =
    let gathered = (c.in-Ok.ensures.ok c.in-Ok.logs).0 refl in
    record {
      logs = gathered.1;
      ends = omega (arith, c.in_ok-ends.ensures.0, c.in_ok-into_logs.ensures.0, ap length gathered.0);
    }

pub returns : goal.returns
returns g c =
    let same : c.run.new.self.setup.now ≡ c.args.setup.now = c.in_ok-run.ensures.setup ∙ c.in_ok-ring.ensures.setup in
    let gathered = (c.in-Ok.ensures.ok c.in-Ok.logs).0 refl in
    let of_nodes : AreLogsOfNodes c.run.new.self.setup.now c.run.new.self.nodes.items c.in-Ok.logs =
    subst (AreLogsOfNodes c.run.new.self.setup.now c.run.new.self.nodes.items) (sym gathered.0)
    c.in_ok-into_logs.ensures in
    let P : Setup → Type 0 = λ s. IsLoneRun s c.of_parts.result in
    subst P same (is_lone_run c.run.new.self.setup.now c.run.new.self.nodes.items c.in-Ok.logs c.in_ok-ends.ends.items
    c.of_parts.result (subst KeepsRules (sym same) c.requires) c.in_ok-run.ensures.done of_nodes
    c.in_ok-ends.ensures c.of_parts.ensures)
