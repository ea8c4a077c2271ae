use Rattle.std.proofs.Common.{rules}
use Rattle.ira_view_json.proofs.LinesWritten.{failed_then, more_taken}
use Rattle.ira_view_json.proofs.moment_lines.write_nodes.Goals as goal

pub returns-in_err-add : goal.returns-in_err-add
returns-in_err-add g c = search (rules, failed_then)

pub loop-place-preserved : goal.loop-place-preserved
loop-place-preserved g c =
    more_taken (g.W.Sink.state c.args.sink.now) (g.W.Sink.state c.loop-place.sink) (g.W.Sink.state c.add.new.sink)
    c.loop-place.invariant c.in_ok-add.ensures.wrote
