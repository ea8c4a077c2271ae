use Rattle.std.proofs.Common.{subst, sym}
use Rattle.ira_audit.specs.ReplayedLogs.{IsSearched, WhyNoOrder}
use Rattle.ira_audit.proofs.ReplayedLogs.{all_run, first_stop}
use Rattle.ira_audit.proofs.judged.first_reason.Goals as goal

pub returns-in-None : goal.returns-in-None
returns-in-None c = λ logs ring order faulty. record {
  ring = ring;
  order = subst (IsSearched logs) c.in-Ok.is order;
  runs = all_run logs c.args.faulty_events.now faulty (sym c.in-None.ensures.value);
}

pub returns-in-Some : goal.returns-in-Some
returns-in-Some c = λ logs ring order faulty. (
  subst (IsSearched logs) c.in-Ok.is order,
  first_stop logs c.args.faulty_events.now faulty c.in-Some.event.now (sym c.in-Some.ensures.value),
)

pub returns-in-Match : goal.returns-in-Match
returns-in-Match c = λ logs ring order faulty.
    subst (WhyNoOrder logs) c.in-Match.is (subst (IsSearched logs) c.in-Err.is order)

pub returns-in-Circle : goal.returns-in-Circle
returns-in-Circle c = λ logs ring order faulty.
    subst (WhyNoOrder logs) c.in-Circle.is (subst (IsSearched logs) c.in-Err.is order)
