use Rattle.std.proofs.Common.{refl}
use Rattle.ira_ring_setup.proofs.AgreementLaws.{lone_logs_same}
use Rattle.ira_ring_alone.proofs.lone_run.run_alone.Goals as goal

pub returns-clause-kept : goal.returns-clause-kept
returns-clause-kept g c = c.if-not-keeps_rules.ensures.0 refl

pub returns-clause-only : goal.returns-clause-only
returns-clause-only g c = lone_logs_same _ _ c.in_ok-run_to_end.ensures
