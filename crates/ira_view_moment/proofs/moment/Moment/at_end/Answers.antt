use Rattle.ira_view_moment.proofs.moment.Moment.at_end.Goals as goal

pub at_cut-requires-clause-cut : goal.at_cut-requires-clause-cut
at_cut-requires-clause-cut g c = rw c.deref.ensures.value c.in_ok-cut.ensures.cut
