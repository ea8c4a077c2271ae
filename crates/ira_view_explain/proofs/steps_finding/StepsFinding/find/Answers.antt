use Rattle.std.proofs.Common.{refl}
use Rattle.ira_view_explain.proofs.Findings.{no_run, position_is}
use Rattle.ira_view_explain.proofs.steps_finding.StepsFinding.find.Goals as goal

pub unreachable-requires : goal.unreachable-requires
unreachable-requires g c =
    no_run c.args.ring.now.logs.now c.log-log.result.now c.args.named c.log-log.ensures.value c.requires.named
    (rw c.in_default.is at c.in_ok-found.ensures)

pub returns : goal.returns
returns g c =
    let logs = c.args.ring.now.logs.now in
    let log = c.log-log.result.now in
    let stopped = rw c.in-Some.is at c.in_ok-found.ensures in
    record {
      named_is = refl;
      log = log;
      log_is = c.log-log.ensures.value;
      stopped = stopped;
      position = position_is logs log c.args.named _ c.log-log.ensures.value c.requires.named stopped.states.faulty;
      others = rw c.in_ok-ordered.ensures at c.in_ok-other_stops.ensures;
      origins = rw c.in_ok-ordered.ensures at c.in_ok-origins.ensures;
    }
