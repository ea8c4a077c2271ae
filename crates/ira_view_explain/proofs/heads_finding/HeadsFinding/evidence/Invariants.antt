use Rattle.ira_view_explain.specs.HeadsTold.{IsHeadTold}
use Rattle.ira_view_page.proofs.ForEach.{AreSoFar}
use Rattle.ira_view_explain.proofs.heads_finding.HeadsFinding.evidence.Given as goal

abbrev pub invariant-loop-file : goal.invariant-loop-file
invariant-loop-file g l = AreSoFar IsHeadTold l.files l.file-index l.told.items
