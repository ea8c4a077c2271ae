use Rattle.ira_view_page.specs.Lines.{IsFromLine}
use Rattle.ira_view_page.proofs.named_text.NamedText.from_line.Given as goal

abbrev pub invariant-loop-line : goal.invariant-loop-line
invariant-loop-line l = IsFromLine l.self.text.now l.line l.rest
