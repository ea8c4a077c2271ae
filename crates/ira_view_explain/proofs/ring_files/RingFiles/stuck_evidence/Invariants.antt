use Rattle.std.proofs.Common.{take}
use Rattle.ira_view_page.specs.Parts.{AreParts}
use Rattle.ira_view_explain.specs.Refused.{AreStuckTold}
use Rattle.ira_view_explain.proofs.ring_files.RingFiles.stuck_evidence.Given as goal

abbrev pub invariant-loop-at : goal.invariant-loop-at
invariant-loop-at g l = AreParts (AreStuckTold l.self.files.now) (take l.at-index l.stuck) l.told.items
