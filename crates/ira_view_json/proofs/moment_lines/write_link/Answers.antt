use Rattle.std.proofs.Common.{◌≡◌, Err, rules}
use Rattle.ira_view_page.specs.declared.show_fault.ShowFault.TheVariants.{OutOfMemory}
use Rattle.ira_view_json.proofs.LinesWritten.{none_wrote}
use Rattle.ira_view_json.proofs.moment_lines.write_link.Goals as goal

pub returns-in_err-link_value : goal.returns-in_err-link_value
returns-in_err-link_value g c =
    let r = c.from_residual.result in
    let is : r ≡ Err OutOfMemory = search rules in
    none_wrote r (g.W.Sink.state c.args.sink.now) is
