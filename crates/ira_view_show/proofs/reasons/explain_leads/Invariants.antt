use Rattle.std.proofs.Common.{List, Some, [], take, ℕ}
use Rattle.std.specs.List.{enumerate_from}
use Rattle.ira_view_page.specs.Page.{Added}
use Rattle.ira_view_page.specs.Parts.{AreParts}
use Rattle.ira_view_show.specs.Reasons.{IsReasonAt}
use Rattle.ira_view_show.proofs.reasons.explain_leads.Given as goal

abbrev pub invariant-loop-place : goal.invariant-loop-place
invariant-loop-place g l = (text : List ℕ)
    × AreParts (IsReasonAt l.files l.logs l.rounds l.named) (take l.place (enumerate_from 0 l.moment.nodes)) text
    × Added (Some []) text l.reasons
