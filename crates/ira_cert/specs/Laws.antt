-- What holds of sections, whoever judges them.
use Rattle.std.specs.Prelude.{◌≡◌, ℕ, List}
use Rattle.ira_event.specs.Log.{Log}
use Rattle.ira_pred.specs.Case.{Conjunct}
use Rattle.ira_order.specs.Circle.{HasOrder}
use Rattle.ira_order.specs.Cut.{IsConsistentCut}
use Rattle.ira_cand.specs.Meets.{Meets}
use Rattle.ira_cert_text.specs.Certificate.{Section}
use Rattle.ira_cert.specs.declared.verdict.Verdict.{Verdict}
use Rattle.ira_cert.specs.Conjuncts.{HasDifferentPlaces, HasPlacesOf}
use Rattle.ira_cert.specs.SoundSection.{IsSoundSection}
use Rattle.ira_cert.specs.Verdict.{IsVerdict}

-- where a section is sound for a case, no consistent cut of the logs meets that case
abbrev pub SoundSectionsLeaveNoCut : Type 0
SoundSectionsLeaveNoCut =
    (logs : List Log) (case : List Conjunct) (section : Section) (cut : List ℕ) → HasDifferentPlaces case
    → IsSoundSection logs case section → IsConsistentCut logs cut → ¬ (Meets logs case cut)

-- no section has two verdicts
abbrev pub NoSectionHasTwoVerdicts : Type 0
NoSectionHasTwoVerdicts =
    (logs : List Log) (case : List Conjunct) (section : Section) (a b : Verdict) → HasDifferentPlaces case
    → IsVerdict logs case section a → IsVerdict logs case section b → a ≡ b

-- no section has none. It is said as a negation, since of logs that have no order nothing tells which
-- event happened before which
abbrev pub NoSectionIsWithoutVerdict : Type 0
NoSectionIsWithoutVerdict =
    (logs : List Log) (case : List Conjunct) (section : Section) → HasPlacesOf logs case
    → ¬ ((a : Verdict) → ¬ (IsVerdict logs case section a))

-- of logs that have an order each section has one
abbrev pub SectionsOfOrderedLogsHaveVerdicts : Type 0
SectionsOfOrderedLogsHaveVerdicts =
    (logs : List Log) (case : List Conjunct) (section : Section) → HasOrder logs → HasDifferentPlaces case
    → HasPlacesOf logs case → (a : Verdict) × IsVerdict logs case section a
