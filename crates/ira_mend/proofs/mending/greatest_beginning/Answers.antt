use Rattle.std.proofs.Common.{subst}
use Rattle.ira_mend.specs.Beginning.{AreBegun}
use Rattle.ira_mend.specs.Longest.{events_kept}
use Rattle.ira_mend.proofs.mending.greatest_beginning.Goals as goal

pub returns : goal.returns
returns g c =
    let begun = subst (λ kept. AreBegun c.args.logs.now (events_kept kept) c.in_ok-begin_logs.field-0) c.deref.ensures.value
    c.in_ok-begin_logs.ensures in
    record { cut = events_kept c.in_ok-kept.kept.items; greatest = c.in_ok-kept.ensures; begun = begun }
