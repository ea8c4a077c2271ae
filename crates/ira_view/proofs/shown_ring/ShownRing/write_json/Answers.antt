use Rattle.std.proofs.Common.{subst}
use Rattle.std.specs.Option.{option_map}
use Rattle.ira_view_json.specs.ShownAnswer.{AreTold, WroteRing}
use Rattle.ira_view.specs.ShownRing.{ShownRing}
use Rattle.ira_view.proofs.shown_ring.ShownRing.write_json.Goals as goal

pub write_ring-requires-clause-order : goal.write_ring-requires-clause-order
write_ring-requires-clause-order g c = rw c.logs-logs.ensures.value c.logs-logs.ensures.good.order

pub returns : goal.returns
returns g c =
    let wrote = rw c.logs-logs.ensures.value at c.write_ring.ensures in
    subst (λ (r : ShownRing). WroteRing r.logs (option_map (λ named. named.now) c.args.answer.named)
    c.args.answer.status r.told r.cut (AreTold c.args.has_events r.logs r.cut) c.write_ring.result
    (g.W.Sink.state c.args.sink.now) (g.W.Sink.state c.write_ring.new.sink)) c.self.view_is wrote
