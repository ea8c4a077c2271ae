use Rattle.std.proofs.Common.{drop}
use Rattle.std.specs.List.{flat_map, zip}
use Rattle.ira_event.proofs.Writing.{HasWritten}
use Rattle.ira_view.specs.MendedLines.{mended_line, mended_lines}
use Rattle.ira_view.proofs.mended_lines.write_mended.Given as goal

abbrev pub invariant-loop-place : goal.invariant-loop-place
invariant-loop-place g l =
    HasWritten (mended_lines l.logs l.mended l.lost)
    (flat_map mended_line (drop l.place (zip (zip l.logs l.mended) l.lost)))
    (g.W.Sink.state l.fn.sink) (g.W.Sink.state l.sink)
