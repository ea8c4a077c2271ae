use Rattle.std.proofs.Common.{drop}
use Rattle.std.specs.List.{enumerate_from, flat_map}
use Rattle.ira_event.proofs.Writing.{HasWritten}
use Rattle.ira_audit.specs.FindingsText.{decided_line}
use Rattle.ira_audit.proofs.findings_writer.write_decided.Given as goal

abbrev pub invariant-loop-case : goal.invariant-loop-case
invariant-loop-case g l =
    HasWritten (flat_map decided_line (enumerate_from 0 l.fn.cases))
    (flat_map decided_line (enumerate_from l.case (drop l.case l.fn.cases))) (g.W.Sink.state l.fn.sink)
    (g.W.Sink.state l.sink)
