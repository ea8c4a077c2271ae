use Rattle.std.proofs.Common.{drop}
use Rattle.std.specs.List.{enumerate_from, flat_map}
use Rattle.ira_event.proofs.Writing.{HasWritten}
use Rattle.ira_audit.specs.FindingsText.{case_line}
use Rattle.ira_audit.proofs.findings_writer.write_cases.Given as goal

abbrev pub invariant-loop-case : goal.invariant-loop-case
invariant-loop-case g l =
    HasWritten (flat_map case_line (enumerate_from 0 l.fn.found))
    (flat_map case_line (enumerate_from l.case (drop l.case l.fn.found))) (g.W.Sink.state l.fn.sink)
    (g.W.Sink.state l.sink)
