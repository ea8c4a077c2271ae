use Rattle.std.proofs.Common.{drop}
use Rattle.ira_event.proofs.Writing.{HasWritten}
use Rattle.ira_view_page.specs.Printable.{shown}
use Rattle.ira_main.proofs.shown_name.write_shown.Given as goal

abbrev pub invariant-loop-byte : goal.invariant-loop-byte
invariant-loop-byte g l =
    HasWritten (shown l.name) (shown (drop l.byte-index l.bytes)) (g.W.Sink.state l.fn.sink) (g.W.Sink.state l.sink)
