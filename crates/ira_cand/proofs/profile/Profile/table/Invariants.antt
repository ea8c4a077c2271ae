use Rattle.std.proofs.Common.{drop}
use Rattle.ira_pred.specs.Clause.{formula}
use Rattle.ira_cand.specs.Profile.{TableAt, stages_in}
use Rattle.ira_cand.proofs.profile.Profile.table.Given as goal

abbrev pub invariant-loop-span : goal.invariant-loop-span
invariant-loop-span g l =
    TableAt l.self l.last (formula l.clause) (stages_in (drop l.span-index l.span-items)) l.position l.found.items
