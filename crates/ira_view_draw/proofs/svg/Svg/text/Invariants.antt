use Rattle.std.proofs.Common.{take}
use Rattle.ira_view_page.specs.Page.{Added}
use Rattle.ira_view_draw.specs.Escaped.{escaped}
use Rattle.ira_view_draw.proofs.svg.Svg.text.Given as goal

abbrev pub invariant-loop-byte : goal.invariant-loop-byte
invariant-loop-byte g l = Added l.initial.self.page (escaped (take l.byte-index l.words)) l.self.page
