use Rattle.std.specs.Prelude.{map}
use Rattle.ira_event.specs.Upgrade.{upgraded}
use Rattle.ira_order.proofs.SameEvents.{turned, cut, consistent}
use Rattle.ira_order.proofs.Upgraded.{same_events}
use Rattle.ira_order.proofs.laws.upgrades_keep_cuts.Goals as goal

pub returns-clause-cuts : goal.returns-clause-cuts
returns-clause-cuts c = λ logs at.
    let new = map upgraded logs in
    (cut new logs (same_events logs) at, cut logs new (turned new logs (same_events logs)) at)

pub returns-clause-consistent : goal.returns-clause-consistent
returns-clause-consistent c = λ logs at.
    let new = map upgraded logs in
    (consistent new logs (same_events logs) at, consistent logs new (turned new logs (same_events logs)) at)
