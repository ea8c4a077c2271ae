use Rattle.std.specs.Prelude.{map}
use Rattle.ira_event.specs.Upgrade.{upgraded}
use Rattle.ira_order.proofs.SameEvents.{turned, pair, matches, before, order}
use Rattle.ira_order.proofs.Upgraded.{same_events}
use Rattle.ira_order.proofs.laws.upgrades_keep_orders.Goals as goal

pub returns-clause-pairs : goal.returns-clause-pairs
returns-clause-pairs c = λ logs i a b.
    let new = map upgraded logs in
    (pair new logs (same_events logs) i a b, pair logs new (turned new logs (same_events logs)) i a b)

pub returns-clause-matching : goal.returns-clause-matching
returns-clause-matching c = λ logs.
    let new = map upgraded logs in
    (matches new logs (same_events logs), matches logs new (turned new logs (same_events logs)))

pub returns-clause-before : goal.returns-clause-before
returns-clause-before c = λ logs i a j b.
    let new = map upgraded logs in
    (before new logs (same_events logs) i a j b, before logs new (turned new logs (same_events logs)) i a j b)

pub returns-clause-orders : goal.returns-clause-orders
returns-clause-orders c = λ logs o.
    let new = map upgraded logs in
    (order new logs (same_events logs) o, order logs new (turned new logs (same_events logs)) o)
