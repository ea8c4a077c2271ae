use Rattle.std.proofs.Common.{rules, ◌≡◌, ◌↔◌, ◌≤◌, ◌<◌, ℕ, IsTrue, length, true, false, slice_index_or}
use Rattle.ira_event.specs.Limits.{MAX_NUMBER, MAX_RECORDS}
use Rattle.ira_event.specs.RingSize.{IsRingSize}
use Rattle.ira_ring_alone.proofs.Seeded.{keeps_all}
use Rattle.ira_ring_alone.proofs.seeded_run.keeps_rules.Goals as goal

pub returns-then-initiators-from : goal.returns-then-initiators-from
returns-then-initiators-from c = λ seed k.
    let many : length c.args.initiators.now ≡ c.args.nodes = search rules in
    let size : IsRingSize c.args.nodes = search rules in
    let within : (1 ≤ c.args.cap) × (c.args.cap ≤ MAX_RECORDS) = search rules in
    let last : (1 ≤ c.args.terms) × (c.args.terms ≤ MAX_NUMBER) = search rules in
    let some : IsTrue c.contains-then-initiators-from.result
    ↔ ((i : ℕ) × (i < c.args.nodes) × (slice_index_or c.args.initiators.now i false ≡ true)) = search rules in
    (λ yes. keeps_all _ _ seed k _ _ size many (some.0 yes) within last, λ kept. some.1 kept.initiator)
