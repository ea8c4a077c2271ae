use Rattle.std.proofs.Common.{refl}
use Rattle.ira_ring_setup.proofs.AgreementLaws.{lone_logs_same}
use Rattle.ira_ring_alone.proofs.seeded_run.run_alone_seeded.Goals as goal

pub run_seeded-requires : goal.run_seeded-requires
run_seeded-requires g c = (c.if-not-keeps_rules.ensures c.args.seed c.args.k).0 refl

pub returns-clause-kept : goal.returns-clause-kept
returns-clause-kept g c = (c.if-not-keeps_rules.ensures c.args.seed c.args.k).0 refl

pub returns-clause-only : goal.returns-clause-only
returns-clause-only g c = lone_logs_same _ _ c.in_ok-run_seeded.ensures
