use Rattle.std.proofs.Common.{arith, sym}
use Rattle.ira_view_page.proofs.Quotes.{fitting_is}
use Rattle.ira_view_page.proofs.quote.fitting.Goals as goal

pub returns-then-width-clause-value : goal.returns-then-width-clause-value
returns-then-width-clause-value c =
    sym (fitting_is 78 c.loop-i.i c.args.line.now c.loop-i-test.true (omega arith) (omega arith))
