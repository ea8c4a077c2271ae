use Rattle.std.proofs.Common.{◌≡◌, ◌<◌, Some, length, slice_get, sym, ◌∙◌, ap, subst, arith}
use Rattle.std.specs.Prelude.{List}
use Rattle.std.proofs.lemmas.Option.{slice_get_read}
use Rattle.ira_event.specs.Log.{Log}
use Rattle.ira_order.specs.Ring.{log_of, next, prev}
use Rattle.ira_order.specs.Circle.{HasOrder}
use Rattle.ira_order.specs.DirectDependencies.{AreDependencies, AreDirectDependencies}
use Rattle.ira_order.proofs.Places.{fewer_receipts}
use Rattle.ira_order.proofs.Runs.{prev_below, next_prev}
use Rattle.ira_order.proofs.direct_dependencies.DirectDependencies.last_sending.Goals as goal
use Rattle.ira_order.proofs.direct_dependencies.DirectDependencies.last_sending.Goals.{After-index}

has : (g : _) (c : After-index g) → HasOrder c.args.self.now
has g c = subst HasOrder c.self.view_is c.self.invariant.0

-- the node before
writer_is : (g : _) (c : After-index g) → c.predecessor-writer.result ≡ prev (length c.args.self.now) c.args.node
writer_is g c = c.predecessor-writer.ensures.value
    ∙ ap (λ n. prev n c.args.node) (c.get.ensures.value ∙ c.size.ensures.value
    ∙ ap (λ (ls : List Log). length ls) c.self.view_is)

in_ring : (g : _) (c : After-index g) → c.predecessor-writer.result < length c.args.self.now
in_ring g c = rw (writer_is g c) (prev_below (length c.args.self.now) c.args.node c.requires.place)

-- and what is kept of it
its : (g : _) (c : After-index g)
    → AreDependencies (log_of c.args.self.now c.predecessor-writer.result) c.index.result.now
its g c =
    let all = subst (λ (ls : List Log). AreDirectDependencies ls c.self.inside.nodes.items) c.self.view_is
    c.self.invariant.1 in
    let within : c.from.result < length c.args.self.now = omega (arith, c.from.ensures, in_ring g c) in
    let at : slice_get c.self.inside.nodes.items c.from.result ≡ Some c.index.result.now =
    slice_get_read c.self.inside.nodes.items (length c.args.self.now) c.from.result c.index.result.now
    (sym all.places) within c.index.ensures in
    all.each c.predecessor-writer.result c.index.result.now
    (subst (λ i. slice_get c.self.inside.nodes.items i ≡ Some c.index.result.now) c.from.ensures at)

pub sending-requires : goal.sending-requires
sending-requires g c =
    let logs = c.args.self.now in
    let writer = c.predecessor-writer.result in
    let at = (goal.at.sending-requires g c).After-index in
    let link : next (length logs) writer ≡ c.args.node =
    ap (next (length logs)) (writer_is g at) ∙ next_prev (length logs) c.args.node c.requires.place in
    let fewer = fewer_receipts logs writer (has g at).0 (in_ring g at) in
    let fewer' = rw link at fewer in
    (omega (arith, c.if-received-eq0.false), omega (arith, c.requires.receipts, fewer', (its g at).sendings.count))

pub returns : goal.returns
returns g c =
    let at = (goal.at.returns g c).After-index in
    record {
      sending = (
        omega (arith, c.if-received-eq0.false),
        writer_is g at,
        (its g at).sendings.each _ _ c.sending.ensures,
      );
    }
