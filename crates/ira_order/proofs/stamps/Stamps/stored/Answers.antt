use Rattle.std.proofs.Common.{ℕ, ◌≡◌, ◌+◌, ◌*◌, ◌<◌, length, [], ◌∙◌, ap, arith}
use Rattle.std.proofs.lemmas.List.{get_or_read}
use Rattle.std.proofs.lemmas.Nat.{mul-le}
use Rattle.ira_event.specs.Limits.{MAX_NODES, MAX_RECORDS}
use Rattle.ira_order.specs.Ring.{log_of}
use Rattle.ira_order.specs.Matching.{got}
use Rattle.ira_order.specs.Stamps.{NodeStamps, stamps_at}
use Rattle.ira_order.proofs.Receipts.{first_receipt, first_more, first_all, few_first}
use Rattle.ira_order.proofs.stamps.Stamps.stored.Goals as goal
use Rattle.ira_order.proofs.stamps.Stamps.stored.Goals.{After-stored-counters}

-- the counters of one node more
one_more : (g : _) (c : After-stored-counters g)
    → c.loop-place.counters + c.stored-counters.result
    ≡ first_receipt c.args.logs.now (c.loop-place.place + 1) * length c.args.logs.now
one_more g c =
    let logs = c.args.logs.now in
    let here : c.loop-place.place < length logs =
    omega (arith, c.loop-place-test.true, c.get-place-end.ensures.value, c.size.ensures.value) in
    let node : c.index.result.now ≡ stamps_at c.args.self.now.nodes.items c.loop-place.place =
    get_or_read c.args.self.now.nodes.items c.from.result c.index.result.now
    (omega (arith, c.from.ensures, here, c.requires.table.places)) c.index.ensures
    (record { numbers = []; counters = [] })
    ∙ ap (stamps_at c.args.self.now.nodes.items) c.from.ensures in
    let its : c.stored-counters.result ≡ length (got (log_of logs c.loop-place.place)) * length logs =
    c.stored-counters.ensures ∙ ap (λ (s : NodeStamps). length s.counters) node
    ∙ c.requires.whole c.loop-place.place here in
    omega (
      arith,
      its,
      c.loop-place.invariant,
      ap (λ (x : ℕ). x * length logs) (first_more logs c.loop-place.place here),
    )

pub overflow_add-counters : goal.overflow_add-counters
overflow_add-counters g c =
    let logs = c.args.logs.now in
    omega (
      arith,
      one_more g c,
      mul-le (first_receipt logs (c.loop-place.place + 1)) (length logs) (MAX_NODES * MAX_RECORDS) MAX_NODES
          (few_first logs (c.loop-place.place + 1) c.size.ensures.valid) c.size.ensures.valid.ring.1,
    )

pub loop-place-preserved : goal.loop-place-preserved
loop-place-preserved g c = one_more g (goal.at.loop-place-preserved g c).After-stored-counters

pub returns : goal.returns
returns g c =
    let logs = c.args.logs.now in
    let all : c.loop-place.place ≡ length logs =
    omega (
      arith,
      c.loop-place-test.false,
      c.loop-place.auto.place-end,
      c.get-place-end.ensures.value,
      c.size.ensures.value,
    ) in
    omega (
      arith,
      c.loop-place.invariant,
      ap (λ (x : ℕ). first_receipt logs x * length logs) all,
      ap (λ (x : ℕ). x * length logs) (first_all logs),
    )
