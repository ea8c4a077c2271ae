use Rattle.std.proofs.Common.{sym, ◌∙◌, subst}
use Rattle.std.specs.List.Sorted.{IsStrictlyIncreasing}
use Rattle.ira_pred.specs.Clause.{formula}
use Rattle.ira_cand.proofs.Passing.{are_candidates, are_candidates_as}
use Rattle.ira_cand.proofs.find_candidates.candidates.Goals as goal

pub new-requires : goal.new-requires
new-requires g c = subst IsStrictlyIncreasing (sym c.passing.ensures)
    (are_candidates c.args.log.now (formula c.args.clause.now)).rising

pub returns-clause-list : goal.returns-clause-list
returns-clause-list g c = are_candidates_as _ _ _ (c.new.ensures ∙ c.passing.ensures)
