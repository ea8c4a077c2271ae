use Rattle.std.proofs.Common.{take}
use Rattle.ira_view_page.specs.Numbers.{list_text}
use Rattle.ira_view_page.specs.Page.{Added}
use Rattle.ira_view_page.proofs.page.Page.places.Given as goal

abbrev pub invariant-loop-i : goal.invariant-loop-i
invariant-loop-i g l = Added l.initial.self (list_text (take l.i l.places)) l.self
