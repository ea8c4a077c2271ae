use Rattle.std.proofs.Common.{◌<◌, length, ap, arith}
use Rattle.std.proofs.lemmas.Result.{IfOk-from_err}
use Rattle.ira_ring_alone.specs.LoneNode.{LoneNode, MakesOwn}
use Rattle.ira_ring_alone.proofs.LoneNodes.{stopped, further, full_ends}
use Rattle.ira_ring_alone.proofs.lone_node.LoneNode.go_on.Goals as goal
use Rattle.ira_ring_alone.proofs.lone_node.LoneNode.go_on.Goals.{in-Yield+in_ok-next-in-Yield, in-Draw+in_ok-next-in-Draw}
use Rattle.ira_ring_alone.proofs.lone_node.LoneNode.go_on.Goals.{in-Receipt+in_ok-next-in-Receipt}

pub returns-in_default : goal.returns-in_default
returns-in_default g c =
    let was = c.loop-nodes.invariant in
    let below_cap : length c.loop-nodes.self.events < c.args.cap =
    omega (arith, ap (λ (x : LoneNode). length x.events) c.self-in-loop-nodes.view_is) in
    let made : MakesOwn c.args.nodes c.args.cap c.args.terms c.loop-nodes.self c.match-wanted.self c.match-wanted.next =
    elim c.match-wanted.branch [
      | in-Yield+in_ok-next-in-Yield w ↦ rw (w.self-is, w.next-is) (w.in_ok-next-in-Yield.ensures c.args.cap below_cap)
      | in-Draw+in_ok-next-in-Draw w ↦
          rw (w.self-is, w.next-is) (w.in_ok-next-in-Draw.ensures c.args.cap c.args.terms below_cap)
      | in-Receipt+in_ok-next-in-Receipt w ↦
          rw (w.self-is, w.next-is) (w.in_ok-next-in-Receipt.ensures c.args.cap c.args.terms below_cap)
    ] in
    stopped _ _ _ was.goes.0 _ c.loop-nodes.self _ _ was.goes.1 made c.in_default.is

pub loop-nodes-preserved : goal.loop-nodes-preserved
loop-nodes-preserved g c =
    let was = c.loop-nodes.invariant in
    let below_cap : length c.loop-nodes.self.events < c.args.cap =
    omega (arith, ap (λ (x : LoneNode). length x.events) c.self-in-loop-nodes.view_is) in
    let made : MakesOwn c.args.nodes c.args.cap c.args.terms c.loop-nodes.self c.match-wanted.self c.match-wanted.next =
    elim c.match-wanted.branch [
      | in-Yield+in_ok-next-in-Yield w ↦ rw (w.self-is, w.next-is) (w.in_ok-next-in-Yield.ensures c.args.cap below_cap)
      | in-Draw+in_ok-next-in-Draw w ↦
          rw (w.self-is, w.next-is) (w.in_ok-next-in-Draw.ensures c.args.cap c.args.terms below_cap)
      | in-Receipt+in_ok-next-in-Receipt w ↦
          rw (w.self-is, w.next-is) (w.in_ok-next-in-Receipt.ensures c.args.cap c.args.terms below_cap)
    ] in
    let on = further _ _ _ was.goes.0 _ c.loop-nodes.self _ _ c.in-Some.after was.goes.1 was.ids made c.in-Some.is in
    record { goes = on.goes; state = on.state; ids = on.ids }

pub returns : goal.returns
returns g c =
    let was = c.loop-nodes.invariant in (
      was.goes,
      full_ends _ _ _ c.loop-nodes.self (omega (
        arith,
        ap (λ (x : LoneNode). length x.events) c.self-in-loop-nodes.view_is,
      )),
    )

pub returns-in_err-next-in-Yield : goal.returns-in_err-next-in-Yield
returns-in_err-next-in-Yield g c = IfOk-from_err _ _ c.from_residual.ensures.0

pub returns-in_err-next-in-Draw : goal.returns-in_err-next-in-Draw
returns-in_err-next-in-Draw g c = IfOk-from_err _ _ c.from_residual-in_err-next-in-Draw.ensures.0

pub returns-in_err-next-in-Receipt : goal.returns-in_err-next-in-Receipt
returns-in_err-next-in-Receipt g c = IfOk-from_err _ _ c.from_residual-in_err-next-in-Receipt.ensures.0

pub returns-in_err-send-in-Send : goal.returns-in_err-send-in-Send
returns-in_err-send-in-Send g c = IfOk-from_err _ _ c.from_residual-in_err-send-in-Send.ensures.0

pub returns-in-Send : goal.returns-in-Send
returns-in-Send g c =
    let below_cap : length c.loop-nodes.self.events < c.args.cap =
    omega (arith, ap (λ (x : LoneNode). length x.events) c.self-in-loop-nodes.view_is) in
    (c.loop-nodes.self, c.loop-nodes.invariant.goes, c.in_ok-send-in-Send.ensures c.args.cap c.args.terms below_cap)
