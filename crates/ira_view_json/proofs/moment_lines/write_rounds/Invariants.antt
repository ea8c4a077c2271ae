use Rattle.ira_event.specs.Sink.{Takes}
use Rattle.ira_view_json.specs.Line.{OfLines}
use Rattle.ira_view_json.proofs.moment_lines.write_rounds.Given as goal

abbrev pub invariant-loop-round : goal.invariant-loop-round
invariant-loop-round g l = OfLines (λ text. Takes text (g.W.Sink.state l.fn.sink) (g.W.Sink.state l.sink))
