use Rattle.std.proofs.Common.{◌<◌}
use Rattle.ira_view_moment.specs.Moment.{LeadsAt}
use Rattle.ira_view_moment.specs.Those.{AreThosePlaces}
use Rattle.ira_view_json.proofs.moment_answer.leaders.Given as goal

abbrev pub invariant-loop-place : goal.invariant-loop-place
invariant-loop-place g l = AreThosePlaces (λ i. (i < l.place) × LeadsAt l.moment i) l.leaders.items
