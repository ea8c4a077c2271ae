use Rattle.std.proofs.Common.{◌≡◌, Err, rules}
use Rattle.ira_view_page.specs.declared.show_fault.ShowFault.TheVariants.{OutOfMemory}
use Rattle.ira_view_json.proofs.Gathering.{any_took}
use Rattle.ira_view_json.proofs.LinesWritten.{none_wrote}
use Rattle.ira_view_json.proofs.ring_lines.write_cut.Goals as goal

pub returns-then-has_events-clause-told : goal.returns-then-has_events-clause-told
returns-then-has_events-clause-told g c = rw c.if-has_events.true c.write_events.ensures.told

pub returns-in-Some-clause-told : goal.returns-in-Some-clause-told
returns-in-Some-clause-told g c =
    rw c.if-has_events.false
    (any_took _ c.write_moment.result (g.W.Sink.state c.args.sink.now) (g.W.Sink.state c.write_moment.new.sink)
    (λ values. tt) c.write_moment.ensures)

pub returns-in_ok-moment-in-None-clause-told : goal.returns-in_ok-moment-in-None-clause-told
returns-in_ok-moment-in-None-clause-told g c =
    rw c.if-has_events.false
    (any_took _ c.write_moment-in-None.result (g.W.Sink.state c.args.sink.now)
    (g.W.Sink.state c.write_moment-in-None.new.sink) (λ values. tt) c.write_moment-in-None.ensures)

pub write_moment-requires-clause-moment : goal.write_moment-requires-clause-moment
write_moment-requires-clause-moment g c =
    c.requires.moment c.in-Some.moment c.in-Some.is

pub returns-in_err-clone-in-None-clause-wrote : goal.returns-in_err-clone-in-None-clause-wrote
returns-in_err-clone-in-None-clause-wrote g c =
    let r = c.from_residual.result in
    let is : r ≡ Err OutOfMemory = search rules in
    none_wrote r (g.W.Sink.state c.args.sink.now) is

pub returns-in_err-moment-in-None-clause-wrote : goal.returns-in_err-moment-in-None-clause-wrote
returns-in_err-moment-in-None-clause-wrote g c =
    let r = c.from_residual-in_err-moment-in-None.result in
    let is : r ≡ Err OutOfMemory = search rules in
    none_wrote r (g.W.Sink.state c.args.sink.now) is
