use Rattle.std.proofs.Common.{◌≡◌, Err, rules}
use Rattle.ira_view_page.specs.declared.show_fault.ShowFault.TheVariants.{OutOfMemory}
use Rattle.ira_view_json.proofs.LinesWritten.{failed_then, more_taken, none_wrote, wrote_then}
use Rattle.ira_view_json.proofs.moment_lines.write_moment.Goals as goal

pub returns-in_err-clone-2 : goal.returns-in_err-clone-2
returns-in_err-clone-2 g c =
    let r = c.from_residual-in_err-clone-2.result in
    let is : r ≡ Err OutOfMemory = search rules in
    none_wrote r (g.W.Sink.state c.args.sink.now) is

pub returns-in_err-write_nodes : goal.returns-in_err-write_nodes
returns-in_err-write_nodes g c =
    let r = c.from_residual-in_err-write_nodes.result in
    let is : r ≡ Err c.in_err-write_nodes.field-0.0 = search rules in
    failed_then r c.in_err-write_nodes.field-0.0 (g.W.Sink.state c.args.sink.now)
    (g.W.Sink.state c.write_rounds.new.sink) (g.W.Sink.state c.write_nodes.new.sink) is c.in_ok-write_rounds.ensures
    c.in_err-write_nodes.ensures

pub returns-in_err-write_way : goal.returns-in_err-write_way
returns-in_err-write_way g c =
    let r = c.from_residual-in_err-write_way.result in
    let is : r ≡ Err c.in_err-write_way.field-0.0 = search rules in
    let so_far =
    more_taken (g.W.Sink.state c.args.sink.now) (g.W.Sink.state c.write_rounds.new.sink)
    (g.W.Sink.state c.write_nodes.new.sink) c.in_ok-write_rounds.ensures c.in_ok-write_nodes.ensures
    in
    failed_then r c.in_err-write_way.field-0.0 (g.W.Sink.state c.args.sink.now)
    (g.W.Sink.state c.write_nodes.new.sink) (g.W.Sink.state c.write_way.new.sink) is so_far
    c.in_err-write_way.ensures

pub returns : goal.returns
returns g c =
    let nodes =
    more_taken (g.W.Sink.state c.args.sink.now) (g.W.Sink.state c.write_rounds.new.sink)
    (g.W.Sink.state c.write_nodes.new.sink) c.in_ok-write_rounds.ensures c.in_ok-write_nodes.ensures
    in
    let so_far =
    more_taken (g.W.Sink.state c.args.sink.now) (g.W.Sink.state c.write_nodes.new.sink)
    (g.W.Sink.state c.write_way.new.sink) nodes c.in_ok-write_way.ensures
    in
    wrote_then c.flush.result (g.W.Sink.state c.args.sink.now) (g.W.Sink.state c.write_way.new.sink)
    (g.W.Sink.state c.flush.new.sink) so_far c.flush.ensures.wrote
