use Rattle.std.proofs.Common.{◌≡◌, ◌<◌, Ok, length}
use Rattle.ira_cert.specs.Conjuncts.{HasDifferentPlaces}
use Rattle.ira_cert.specs.Queues.{AreFoundFor}
use Rattle.ira_cert.proofs.conjuncts.map_conjuncts.Given as goal

abbrev pub invariant-loop-place : goal.invariant-loop-place
invariant-loop-place g l = record {
  count : length l.found.items ≡ l.place;
  different : 0 < l.place → HasDifferentPlaces l.case;
  found : AreFoundFor (λ n t. goal.F-post g l.find n (Ok t)) l.case l.found.items;
}
