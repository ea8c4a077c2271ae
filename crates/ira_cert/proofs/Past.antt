-- Nothing happened before an event that doesn't exist, nor did such an event.
use Rattle.std.proofs.Common.{◌≡◌, ℕ, ◌<◌, List, Some, length, slice_get, ap, arith}
use Rattle.ira_event.specs.Log.{Log}
use Rattle.ira_order.specs.Before.{Before}
use Rattle.ira_order.specs.Ring.{log_of, events_of}
use Rattle.ira_order.proofs.Acyclic.{before_within}

pub first_exists : (logs : List Log) (i a j b : ℕ) (log : Log) → slice_get logs i ≡ Some log → length log.events < a
    → ¬ (Before logs i a j b)
first_exists logs i a j b log at past before =
    let w = before_within logs i a j b before in
    let e : length (log_of logs i) ≡ length log.events = ap (λ o. length (events_of o)) at in
    omega (arith, w.1)

pub second_exists : (logs : List Log) (i a j b : ℕ) (log : Log) → slice_get logs j ≡ Some log → length log.events < b
    → ¬ (Before logs i a j b)
second_exists logs i a j b log at past before =
    let w = before_within logs i a j b before in
    let e : length (log_of logs j) ≡ length log.events = ap (λ o. length (events_of o)) at in
    omega (arith, w.3)

pub second_is_numbered : (logs : List Log) (i a j b : ℕ) → b ≡ 0 → ¬ (Before logs i a j b)
second_is_numbered logs i a j b none before = let w = before_within logs i a j b before in omega (arith, w.2)
