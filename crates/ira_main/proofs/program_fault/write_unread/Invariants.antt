use Rattle.std.proofs.Common.{drop}
use Rattle.std.specs.List.{flat_map}
use Rattle.ira_event.proofs.Writing.{HasWritten}
use Rattle.ira_main.specs.FileFault.{unread_text}
use Rattle.ira_main.proofs.program_fault.write_unread.Given as goal

abbrev pub invariant-loop-name : goal.invariant-loop-name
invariant-loop-name g l =
    HasWritten (flat_map unread_text l.names) (flat_map unread_text (drop l.name-index l.names))
    (g.V.Sink.state l.fn.err) (g.V.Sink.state l.err)
