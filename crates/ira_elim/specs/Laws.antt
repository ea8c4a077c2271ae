-- What holds of cases, whoever decides them.
use Rattle.std.specs.Prelude.{◌≡◌, ℕ, ◌⊎◌, List}
use Rattle.ira_event.specs.Log.{Log}
use Rattle.ira_pred.specs.Case.{Conjunct}
use Rattle.ira_order.specs.Circle.{HasOrder}
use Rattle.ira_cert_text.specs.Certificate.{Section}
use Rattle.ira_cert.specs.Conjuncts.{HasDifferentPlaces, HasPlacesOf}
use Rattle.ira_elim.specs.Found.{IsAbsence}
use Rattle.ira_elim.specs.LeastCut.{IsLeastCut}

-- some section shows that no consistent cut meets the case
abbrev pub IsAbsent : List Log → List Conjunct → Type 0
IsAbsent logs case = (section : Section) × IsAbsence logs case section

-- some consistent cut meets it, and there is a least of these
abbrev pub IsPresent : List Log → List Conjunct → Type 0
IsPresent logs case = (cut : List ℕ) × IsLeastCut logs case cut

-- where the logs match and have an order, each case that asks each node of theirs for one thing at most is one
-- of the two
abbrev pub CasesAreAbsentOrPresent : Type 0
CasesAreAbsentOrPresent =
    (logs : List Log) (case : List Conjunct) → HasOrder logs → HasDifferentPlaces case → HasPlacesOf logs case
    → IsAbsent logs case ⊎ IsPresent logs case

-- no case has two least cuts
abbrev pub NoCaseHasTwoLeastCuts : Type 0
NoCaseHasTwoLeastCuts = (logs : List Log) (case : List Conjunct) (a b : List ℕ) → IsLeastCut logs case a
    → IsLeastCut logs case b → a ≡ b
