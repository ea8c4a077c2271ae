use Rattle.std.proofs.Common.{codes, take}
use Rattle.std.specs.List.{flat_map}
use Rattle.ira_audit.specs.Report.{numbered}
use Rattle.ira_view_page.specs.Page.{Added}
use Rattle.ira_commands.proofs.decided_line.add_positions.Given as goal

abbrev pub invariant-loop-position : goal.invariant-loop-position
invariant-loop-position g l =
    Added l.initial.page (flat_map (numbered (codes " ")) (take l.position-index l.positions)) l.page
