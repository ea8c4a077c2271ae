use Rattle.std.proofs.Common.{subst}
use Rattle.ira_view_page.specs.Lines.{IsFromLine, first, next_line, past}
use Rattle.ira_view_page.proofs.named_text.NamedText.from_line.Goals as goal
use Rattle.ira_view_page.proofs.named_text.NamedText.from_line.Goals.{in-Some, in-None}

pub loop-line-init : goal.loop-line-init
loop-line-init c = first

pub loop-line-preserved : goal.loop-line-preserved
loop-line-preserved c = elim c.match-split_line.branch [
  | in-Some w ↦
      let text = c.args.self.now.text.now in
      let from = subst (IsFromLine text c.loop-line.line) w.in-Some.ensures.0 c.loop-line.invariant in
      rw w.rest-is (next_line c.loop-line.line w.in-Some.field-0-0.now w.in-Some.after.now from w.in-Some.ensures.1)
  | in-None w ↦
      let from = c.loop-line.invariant in
      rw w.rest-is (past c.loop-line.line c.loop-line.rest.now from w.in-None.ensures)
]
