use Rattle.std.proofs.Common.{drop}
use Rattle.std.specs.List.{flat_map, zip}
use Rattle.ira_event.proofs.Writing.{HasWritten}
use Rattle.ira_ring_setup.specs.EndsWriter.{end_text, ends_text}
use Rattle.ira_ring_setup.proofs.ends_writer.write_ends.Given as goal

abbrev pub invariant-loop-i : goal.invariant-loop-i
invariant-loop-i g l =
    HasWritten (ends_text l.fn.run) (flat_map end_text (drop l.i (zip l.fn.run.logs l.fn.run.ends)))
    (g.W.Sink.state l.fn.sink) (g.W.Sink.state l.sink)
