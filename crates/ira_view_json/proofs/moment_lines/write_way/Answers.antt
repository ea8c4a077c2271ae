use Rattle.std.proofs.Common.{◌≡◌, Err, rules}
use Rattle.ira_view_page.specs.declared.show_fault.ShowFault.TheVariants.{OutOfMemory}
use Rattle.ira_view_json.proofs.LinesWritten.{none_wrote, wrote_then}
use Rattle.ira_view_json.proofs.moment_lines.write_way.Goals as goal

pub returns-in_err-election : goal.returns-in_err-election
returns-in_err-election g c =
    let r = c.from_residual-in_err-election.result in
    let is : r ≡ Err OutOfMemory = search rules in
    none_wrote r (g.W.Sink.state c.args.sink.now) is

pub returns : goal.returns
returns g c =
    wrote_then c.write_next.result (g.W.Sink.state c.args.sink.now) (g.W.Sink.state c.write_links.new.sink)
    (g.W.Sink.state c.write_next.new.sink) c.in_ok-write_links.ensures c.write_next.ensures
