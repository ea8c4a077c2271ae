use Rattle.ira_view_explain.specs.HeadsHint.{AreMissing}
use Rattle.ira_view_explain.proofs.heads_finding.missing_places.Given as goal

abbrev pub invariant-loop-place : goal.invariant-loop-place
invariant-loop-place g l = AreMissing l.heads l.place l.places.items
