use Rattle.std.proofs.Common.{◌≡◌, ◌≤◌, length, take}
use Rattle.ira_view_page.specs.Printable.{shown}
use Rattle.ira_view_page.proofs.quote.fitting.Given as goal

abbrev pub invariant-loop-i : goal.invariant-loop-i
invariant-loop-i l = record { width : l.width ≡ length (shown (take l.i l.line)); fits : l.width ≤ 78 }
