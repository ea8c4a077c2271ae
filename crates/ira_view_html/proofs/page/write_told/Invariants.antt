use Rattle.std.proofs.Common.{take}
use Rattle.ira_view_page.specs.Page.{Added}
use Rattle.ira_view_html.specs.HtmlPage.{told_text}
use Rattle.ira_view_html.proofs.page.write_told.Given as goal

abbrev pub invariant-loop-byte : goal.invariant-loop-byte
invariant-loop-byte g l = Added l.initial.page (told_text (take l.byte-index l.json)) l.page
