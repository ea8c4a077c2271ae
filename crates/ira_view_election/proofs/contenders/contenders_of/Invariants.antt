use Rattle.std.proofs.Common.{◌<◌, ℕ, List, map}
use Rattle.ira_election.specs.Draws.{IsContender}
use Rattle.ira_view_moment.specs.Rounds.{AreRounds, drawn}
use Rattle.ira_view_moment.specs.Those.{AreThosePlaces}
use Rattle.ira_view_election.proofs.contenders.contenders_of.Given as goal

abbrev pub invariant-loop-place : goal.invariant-loop-place
invariant-loop-place g l =
    (cut : List ℕ) → AreRounds l.logs cut (map drawn l.rounds)
    → AreThosePlaces (λ i. (i < l.place) × IsContender l.logs cut l.term i) l.places.items
