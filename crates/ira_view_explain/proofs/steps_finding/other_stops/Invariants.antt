use Rattle.std.proofs.Common.{take}
use Rattle.ira_view_explain.specs.Refused.{AreOtherStops}
use Rattle.ira_view_page.specs.Parts.{AreParts}
use Rattle.ira_view_explain.proofs.steps_finding.other_stops.Given as goal

abbrev pub invariant-loop-stop : goal.invariant-loop-stop
invariant-loop-stop g l = AreParts (AreOtherStops l.ordered l.named) (take l.stop-index l.faulty) l.others.items
