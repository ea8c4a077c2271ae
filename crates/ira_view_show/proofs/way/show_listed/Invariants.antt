use Rattle.std.proofs.Common.{take}
use Rattle.ira_view_page.specs.Page.{Added}
use Rattle.ira_view_show.specs.Listed.{list_text}
use Rattle.ira_view_show.specs.Way.{listed_load}
use Rattle.ira_view_show.proofs.way.show_listed.Given as goal

abbrev pub invariant-loop-i : goal.invariant-loop-i
invariant-loop-i g l = Added l.initial.page (list_text listed_load (take l.i l.loads)) l.page
