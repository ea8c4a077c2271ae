use Rattle.std.proofs.Common.{ℕ, ◌≡◌, length, [], sym, ◌∙◌, ap, subst, arith}
use Rattle.std.specs.Prelude.{slice_index}
use Rattle.std.proofs.lemmas.List.{get_or_read}
use Rattle.std.proofs.lemmas.Nat.{mul-le}
use Rattle.ira_order.specs.Ring.{log_of}
use Rattle.ira_order.specs.Matching.{got}
use Rattle.ira_order.specs.Stamps.{NodeStamps, AreReceipts, stamps_at, counters_at, counter, receipts_by}
use Rattle.ira_order.proofs.Receipts.{receipts_by_le}
use Rattle.ira_order.proofs.stamps.Stamps.counts.Goals as goal
use Rattle.ira_order.proofs.stamps.Stamps.counts.Goals.{After-received}

-- the node that is read
node_is : (g : _) (c : After-received g) → c.index-node.result.now ≡ stamps_at c.args.self.now.nodes.items c.args.j
node_is g c =
    get_or_read c.args.self.now.nodes.items c.from.result c.index-node.result.now
    (omega (arith, c.from.ensures, c.requires.place, c.requires.stamps.table.places)) c.index-node.ensures
    (record { numbers = []; counters = [] })
    ∙ ap (stamps_at c.args.self.now.nodes.items) c.from.ensures

-- and how many messages it has received
received_is : (g : _) (c : After-received g) → c.received.result ≡ receipts_by c.args.logs.now c.args.j c.args.b
received_is g c =
    c.received.ensures (log_of c.args.logs.now c.args.j)
    (subst (λ (s : NodeStamps). AreReceipts (log_of c.args.logs.now c.args.j) s.numbers) (sym (node_is g c))
    (c.requires.stamps.table.receipts c.args.j c.requires.place))

size : (g : _) (c : After-received g) → c.from-2.result ≡ length c.args.logs.now
size g c = c.from-2.ensures ∙ c.get.ensures.value ∙ c.size.ensures.value

pub row-requires-clause-receipt : goal.row-requires-clause-receipt
row-requires-clause-receipt g c =
    let logs = c.args.logs.now in
    let within = mul-le c.received.result c.from-2.result (length (got (log_of logs c.args.j))) (length logs)
    (omega (arith, received_is g c, receipts_by_le logs c.args.j c.args.b)) (omega (arith, size g c)) in
    omega (
      arith,
      within,
      ap (λ (s : NodeStamps). length s.counters) (node_is g c),
      c.requires.stamps.whole c.args.j c.requires.place,
    )

pub returns : goal.returns
returns g c =
    let logs = c.args.logs.now in
    let at = (goal.at.returns g c).After-received in
    record {
      places = c.row.ensures.wide ∙ size g at;
      others = λ i li ne.
          let read : slice_index c.row.result.now i
          ≡ counter (length logs) (counters_at c.args.self.now.nodes.items c.args.j)
          (receipts_by logs c.args.j c.args.b) i =
          c.row.ensures.each i (omega (arith, li, size g at))
          ∙ ap (λ (n : ℕ). counter n c.index-node.result.now.counters c.received.result i) (size g at)
          ∙ ap (λ (s : NodeStamps). counter (length logs) s.counters c.received.result i) (node_is g at)
          ∙ ap (λ (r : ℕ). counter (length logs) (counters_at c.args.self.now.nodes.items c.args.j) r i)
          (received_is g at) in
          rw read (c.requires.stamps.counts c.args.j c.args.b c.requires.place c.requires.position i li ne);
    }
