use Rattle.std.proofs.Common.{take}
use Rattle.ira_view_page.specs.Page.{Added}
use Rattle.ira_view_page.specs.Printable.{shown}
use Rattle.ira_view_page.proofs.page.Page.show.Given as goal

abbrev pub invariant-loop-byte : goal.invariant-loop-byte
invariant-loop-byte g l = Added l.initial.self (shown (take l.byte-index l.bytes)) l.self
