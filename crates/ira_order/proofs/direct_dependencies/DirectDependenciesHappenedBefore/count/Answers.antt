use Rattle.std.proofs.Common.{◌-◌, sym, ◌∙◌, subst}
use Rattle.ira_order.specs.Ring.{log_of}
use Rattle.ira_order.specs.VectorClock.{IsCount}
use Rattle.ira_order.specs.DirectDependencies.{IsSending, IsWayBack}
use Rattle.ira_order.proofs.Counting.{count_own}
use Rattle.ira_order.proofs.WayBack.{way_none, way_receipts, way_ends, way_on}
use Rattle.ira_order.proofs.direct_dependencies.DirectDependenciesHappenedBefore.count.Goals as goal

pub returns-then-i-j-clause-count : goal.returns-then-i-j-clause-count
returns-then-i-j-clause-count g c =
    let logs = c.args.self.now in let has = c.received-received.ensures.valid in
    subst (λ i. IsCount logs c.args.j c.args.b i c.args.b) (sym c.if-i-j.true)
    (count_own logs has.1 has.2 c.args.j c.args.b c.requires.places.0 c.requires.position)

pub last_sending-requires-clause-receipts : goal.last_sending-requires-clause-receipts
last_sending-requires-clause-receipts g c =
    way_receipts c.args.self.now c.received-received.ensures.valid c.args.j c.args.b c.args.i c.back.node
    c.back.received c.back.invariant.way

pub returns-then-writer-i-clause-count : goal.returns-then-writer-i-clause-count
returns-then-writer-i-clause-count g c =
    let logs = c.args.self.now in let back = c.back.invariant in let last = c.in-Some.ensures.sending in
    way_ends logs c.received-received.ensures.valid c.args.j c.args.b c.args.i c.back.node c.back.received
    c.in-Some.sending back.apart last.0 back.way
    (subst (λ x. IsSending (log_of logs x) (c.back.received - 1) c.in-Some.sending) last.1 last.2) (sym last.1
    ∙ c.if-writer-i.true)

pub back-preserved : goal.back-preserved
back-preserved g c =
    let logs = c.args.self.now in let back = c.back.invariant in let last = c.in-Some.ensures.sending in
    record {
      apart = c.if-writer-i.false;
      way = subst (λ x. IsWayBack logs c.args.j c.args.b c.args.i x c.in-Some.sending.received) (sym last.1)
          (way_on logs c.received-received.ensures.valid c.args.j c.args.b c.args.i c.back.node c.back.received
          c.in-Some.sending back.apart last.0 back.way
          (subst (λ x. IsSending (log_of logs x) (c.back.received - 1) c.in-Some.sending) last.1 last.2));
    }

pub returns-clause-count : goal.returns-clause-count
returns-clause-count g c =
    let logs = c.args.self.now in let back = c.back.invariant in
    way_none logs c.received-received.ensures.valid c.args.j c.args.b c.args.i c.back.node back.apart
    (subst (IsWayBack logs c.args.j c.args.b c.args.i c.back.node) c.in_default.ensures.sending back.way)
