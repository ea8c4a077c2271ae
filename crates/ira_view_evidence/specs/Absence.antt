-- Why no consistent cut meets a case.
use Rattle.std.specs.Prelude.{ℕ, List}
use Rattle.ira_event.specs.Log.{Log}
use Rattle.ira_pred.specs.Case.{Conjunct}
use Rattle.ira_cert.specs.Conjuncts.{IsAsked}
use Rattle.ira_view_evidence.specs.declared.elimination.Elimination.{Elimination}
use Rattle.ira_view_evidence.specs.Elimination.{AreEliminations, IsCandidate, IsEliminated}

-- eliminations, after which each state of node i that the case asks for is eliminated
pub record ShowsAbsence (logs : List Log) (case : List Conjunct) (all : List Elimination) (i : ℕ) : Type 0 where
  pub eliminations : AreEliminations logs case all
  pub asked : IsAsked case i
  pub spent : (p : ℕ) → IsCandidate logs case i p → IsEliminated all i p
