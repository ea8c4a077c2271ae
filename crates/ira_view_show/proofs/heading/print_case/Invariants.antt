use Rattle.std.proofs.Common.{take}
use Rattle.ira_view_page.specs.Page.{Added}
use Rattle.ira_view_show.specs.Asked.{case_text}
use Rattle.ira_view_show.proofs.heading.print_case.Given as goal

abbrev pub invariant-loop-n : goal.invariant-loop-n
invariant-loop-n g l = Added l.initial.page (case_text (take l.n l.case)) l.page
