use Rattle.std.proofs.Common.{List, take}
use Rattle.ira_event.specs.Log.{Log}
use Rattle.ira_pred.specs.Case.{Conjunct}
use Rattle.ira_cert.specs.Conjuncts.{HasDifferentPlaces}
use Rattle.ira_cert.specs.SoundSection.{AreSoundSteps}
use Rattle.ira_view_evidence.specs.Elimination.{AreOfSteps}
use Rattle.ira_view_evidence.proofs.Eliminations.{AreSoFar}
use Rattle.ira_view_evidence.proofs.absence.Absence.of_section.Given as goal

abbrev pub invariant-loop-step : goal.invariant-loop-step
invariant-loop-step g l =
    ((logs : List Log) (case : List Conjunct) → HasDifferentPlaces case → AreSoundSteps logs case l.section.steps
    → AreSoFar logs case (take l.step-index l.section.steps) l.eliminations.items)
    × AreOfSteps (take l.step-index l.section.steps) l.eliminations.items
