use Rattle.ira_view_page.proofs.Adding.{◌&◌}
use Rattle.ira_view_explain_question.proofs.moment_lines.print_loads.Goals as goal

pub loop-load-preserved : goal.loop-load-preserved
loop-load-preserved g c = (_, c.loop-load.invariant.1 & c.print_load.ensures.1)

pub loop-link-preserved : goal.loop-link-preserved
loop-link-preserved g c = (_, c.loop-link.invariant.1 & c.loop-load.invariant.1)

pub returns : goal.returns
returns g c = (
  _,
  c.begin.ensures & c.words.ensures & c.loop-link.invariant.1 & c.print_more_loads.ensures.1 & c.words-2.ensures
      & c.end.ensures,
)
