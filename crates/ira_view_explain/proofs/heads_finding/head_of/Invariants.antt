use Rattle.ira_view_explain.proofs.Places.{AreOthers}
use Rattle.ira_view_explain.proofs.heads_finding.head_of.Given as goal

abbrev pub invariant-loop-i : goal.invariant-loop-i
invariant-loop-i l = AreOthers l.heads l.place l.from l.i
