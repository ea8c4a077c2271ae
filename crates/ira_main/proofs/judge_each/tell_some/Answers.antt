use Rattle.std.proofs.Common.{subst}
use Rattle.std.proofs.lemmas.Result.{err_from_is_err_and}
use Rattle.ira_event.specs.Sink.{StopsIn, Takes}
use Rattle.ira_main.proofs.judge_each.tell_some.Goals as goal

pub returns-in_err-write_bytes : goal.returns-in_err-write_bytes
returns-in_err-write_bytes g c =
    let stops = subst (λ t. StopsIn t (g.W.Sink.state c.args.out.now) (g.W.Sink.state c.write_bytes.new.sink))
    c.bytes.ensures c.in_err-write_bytes.ensures in
    let p = err_from_is_err_and c.from_residual-in_err-write_bytes.result c.from_residual-in_err-write_bytes.ensures.1 in
    rw (p.1, p.2) (c.in_ok-answers.answers.items, c.in_ok-answers.text.bytes, c.in_ok-answers.ensures, stops)

pub returns : goal.returns
returns g c =
    let took = subst (λ t. Takes t (g.W.Sink.state c.args.out.now) (g.W.Sink.state c.write_bytes.new.sink))
    c.bytes.ensures c.in_ok-write_bytes.ensures in (c.in_ok-answers.text.bytes, c.in_ok-answers.ensures, took)
