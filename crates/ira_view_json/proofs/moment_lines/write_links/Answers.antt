use Rattle.std.proofs.Common.{rules}
use Rattle.ira_view_json.proofs.LinesWritten.{failed_then, more_taken}
use Rattle.ira_view_json.proofs.moment_lines.write_links.Goals as goal

pub returns-in_err-write_link : goal.returns-in_err-write_link
returns-in_err-write_link g c = search (rules, failed_then)

pub loop-link-preserved : goal.loop-link-preserved
loop-link-preserved g c =
    more_taken (g.W.Sink.state c.args.sink.now) (g.W.Sink.state c.loop-link.sink) (g.W.Sink.state c.write_link.new.sink)
    c.loop-link.invariant c.in_ok-write_link.ensures
