use Rattle.std.proofs.Common.{◌≡◌, map, take}
use Rattle.ira_pred.specs.Clause.{formula}
use Rattle.ira_cand.specs.Profile.{answers_in}
use Rattle.ira_cand.proofs.profile.known_answers.Given as goal

abbrev pub invariant-loop-kind : goal.invariant-loop-kind
invariant-loop-kind g l = l.known.items ≡ map (answers_in (formula l.clause)) (take l.kind-index l.kinds)
