use Rattle.std.proofs.Common.{drop}
use Rattle.std.specs.List.{flat_map}
use Rattle.std.specs.Prelude.{codes}
use Rattle.ira_event.proofs.Writing.{HasWritten}
use Rattle.ira_audit.specs.Report.{numbered}
use Rattle.ira_audit.proofs.findings_writer.write_positions.Given as goal

abbrev pub invariant-loop-position : goal.invariant-loop-position
invariant-loop-position g l =
    HasWritten (flat_map (numbered (codes " ")) l.fn.positions)
    (flat_map (numbered (codes " ")) (drop l.position-index l.fn.positions)) (g.W.Sink.state l.fn.sink)
    (g.W.Sink.state l.sink)
