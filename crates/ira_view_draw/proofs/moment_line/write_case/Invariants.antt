use Rattle.std.proofs.Common.{take}
use Rattle.std.specs.List.{enumerate_from, flat_map}
use Rattle.ira_view_page.specs.Page.{Added}
use Rattle.ira_view_draw.specs.MomentLine.{asked_text}
use Rattle.ira_view_draw.proofs.moment_line.write_case.Given as goal

abbrev pub invariant-loop-n : goal.invariant-loop-n
invariant-loop-n g l = Added l.initial.page (flat_map asked_text (take l.n (enumerate_from 0 l.case))) l.page
