use Rattle.std.proofs.Common.{[], Option, List, ℕ, subst}
use Rattle.ira_view_page.proofs.Adding.{◌&◌, nothing_added}
use Rattle.ira_view_page.specs.Page.{AddedSome}
use Rattle.ira_view_page.proofs.explanation.Explanation.of_page.Goals as goal

pub loop-hint-init : goal.loop-hint-init
loop-hint-init g c = ([], nothing_added _)

pub loop-hint-preserved : goal.loop-hint-preserved
loop-hint-preserved g c = (_, c.loop-hint.invariant.1 & c.hint.ensures.1)

pub returns-clause-page : goal.returns-clause-page
returns-clause-page g c =
    subst (λ (p : Option (List ℕ)). AddedSome c.args.page p) c.in_ok-finish.ensures c.loop-hint.invariant
