-- What is found of a case.
use Rattle.std.specs.Prelude.{ℕ, ◌≤◌, List, Option, Some, None, length}
use Rattle.std.specs.List.{sum_by}
use Rattle.ira_event.specs.Log.{Log}
use Rattle.ira_pred.specs.Case.{Conjunct}
use Rattle.ira_cert_text.specs.Certificate.{Section}
use Rattle.ira_cert.specs.Queues.{AreQueues}
use Rattle.ira_cert.specs.SoundSection.{IsSoundSection}
use Rattle.ira_elim.specs.declared.found.Found.{Found}
use Rattle.ira_elim.specs.declared.found.Found.TheVariants.{Absent, Present}
use Rattle.ira_elim.specs.LeastCut.{IsLeastCut}

-- how many candidates a place has: none where the case doesn't ask it
abbrev pub candidate_count : Option (List ℕ) → ℕ
candidate_count None = 0
candidate_count (Some positions) = length positions

-- it shows that no consistent cut meets the case, in at most as many steps as the nodes that the case asks
-- have candidates together
pub record IsAbsence (logs : List Log) (case : List Conjunct) (section : Section) : Type 0 where
  pub sound : IsSoundSection logs case section
  pub queues : List (Option (List ℕ))
  pub queues_are : AreQueues logs case queues
  pub short : length section.steps ≤ sum_by candidate_count queues

-- a section that shows it absent, or the least consistent cut that meets it
abbrev pub IsFound : {A : Type 0} → List Log → List Conjunct → Found A → Type 0
IsFound logs case (Absent section) = IsAbsence logs case section
IsFound logs case (Present cut) = IsLeastCut logs case cut
