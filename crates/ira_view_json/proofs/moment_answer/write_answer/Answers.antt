use Rattle.ira_view_json.proofs.LinesWritten.{answered, at_cut_of}
use Rattle.ira_view_json.proofs.moment_answer.write_answer.Goals as goal

pub returns : goal.returns
returns g c =
    answered c.args.logs.now _ c.args.answer.status _ _ c.write_line.result _ (g.W.Sink.state c.args.sink.now)
    (g.W.Sink.state c.write_line.new.sink)
    (at_cut_of c.args.logs.now c.args.chosen.now _ c.args.answer.status _ c.in_ok-value.ensures) c.write_line.ensures
