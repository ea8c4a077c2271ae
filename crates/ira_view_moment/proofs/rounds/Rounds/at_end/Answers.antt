use Rattle.ira_view_moment.proofs.rounds.Rounds.at_end.Goals as goal

pub of-requires-clause-cut : goal.of-requires-clause-cut
of-requires-clause-cut g c = rw c.deref.ensures.value c.in_ok-cut.ensures.cut.0
