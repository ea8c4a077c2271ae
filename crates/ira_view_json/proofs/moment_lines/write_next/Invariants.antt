use Rattle.ira_event.specs.Sink.{Takes}
use Rattle.ira_view_json.specs.Line.{OfLines}
use Rattle.ira_view_json.proofs.moment_lines.write_next.Given as goal

abbrev pub invariant-loop-one : goal.invariant-loop-one
invariant-loop-one g l = OfLines (λ text. Takes text (g.W.Sink.state l.fn.sink) (g.W.Sink.state l.sink))
