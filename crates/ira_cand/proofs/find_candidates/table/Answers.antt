use Rattle.std.proofs.Common.{Ok}
use Rattle.std.proofs.lemmas.Iterator.{items_from_collect}
use Rattle.std.proofs.lemmas.Iterator.Consumers.{YieldsList-from_first}
use Rattle.ira_cand.proofs.Passing.{are_candidates_as}
use Rattle.ira_cand.proofs.find_candidates.table.Goals as goal

pub returns-clause-list : goal.returns-clause-list
returns-clause-list g c =
    are_candidates_as _ _ _ (items_from_collect {E = Unit {0}} (Ok c.in_ok-collect.field-0) c.in_ok-collect.ensures.ran
    (YieldsList-from_first (λ x. x) (λ s. s) _ c.passing.ensures))
