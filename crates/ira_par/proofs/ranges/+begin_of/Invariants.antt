use Rattle.ira_par.proofs.ranges.+begin_of.Given as goal

abbrev pub decreases-begin_of : goal.decreases-begin_of
decreases-begin_of l = l.depth
