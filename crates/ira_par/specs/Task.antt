-- Helpers, no definitions: sections that are judged range by range, and what is found of them.
use Rattle.std.specs.Prelude.{◌≡◌, ℕ, ◌+◌, ◌^◌, ◌<◌, List, Option, Some, None, length, slice_get, take}
use Rattle.ira_event.specs.Log.{Log}
use Rattle.ira_pred.specs.Case.{Conjunct}
use Rattle.ira_cert_text.specs.Certificate.{Section}
use Rattle.ira_cert.specs.declared.section_fault.SectionFault.{SectionFault}
use Rattle.ira_cert.specs.declared.verdict.Verdict.{Verdict}
use Rattle.ira_cert.specs.declared.verdict.Verdict.TheVariants.{Yes, No}
use Rattle.ira_cert.specs.Conjuncts.{HasDifferentPlaces}
use Rattle.ira_cert.specs.Front.{IsSpent}
use Rattle.ira_cert.specs.SectionFault.{IsSectionFault}
use Rattle.ira_cert.specs.SoundSection.{AreSoundSteps}
use Rattle.ira_cert.specs.Verdict.{IsVerdict}
use Rattle.ira_par.specs.declared.unsound_section.UnsoundSection.{UnsoundSection}
use Rattle.ira_par.specs.Halves.{begin_of}
use Rattle.ira_par.specs.CandidateTable.{CandidateTable, AreTables, AreBelow}

-- a section, and the candidates of each node that its case asks
pub record Task : Type 0 where
  pub tables : List CandidateTable
  pub section : Section

-- the section is sound as far as range r of 2 ^ depth begins: the steps before it are, and at the end the node is
-- spent
abbrev pub IsSoundUpTo : List Log → List Conjunct → Section → ℕ → ℕ → Type 0
IsSoundUpTo logs case section depth r =
    AreSoundSteps logs case (take (begin_of (length section.steps) depth r) section.steps)
    × (r ≡ 2 ^ depth → IsSpent logs case section.steps section.spent)

-- what is found in range r of 2 ^ depth of a section that is sound up to there: nothing where it is sound up to the
-- next, else its fault
abbrev pub IsFoundInRange : List Log → List Conjunct → Section → ℕ → ℕ → Option SectionFault → Type 0
IsFoundInRange logs case section depth r None =
    IsSoundUpTo logs case section depth r → IsSoundUpTo logs case section depth (r + 1)
IsFoundInRange logs case section depth r (Some fault) =
    IsSoundUpTo logs case section depth r → IsSectionFault logs case section fault

-- so it is for each case that the tables belong to
abbrev pub IsFoundFor : List Log → ℕ → ℕ → Task → Option SectionFault → Type 0
IsFoundFor logs depth r task found =
    (case : List Conjunct) → HasDifferentPlaces case → AreTables logs case task.tables
    → IsFoundInRange logs case task.section depth r found

-- this is the verdict on the section, for each case that the tables belong to
abbrev pub IsVerdictOf : List Log → Task → Verdict → Type 0
IsVerdictOf logs task verdict =
    (case : List Conjunct) → HasDifferentPlaces case → AreTables logs case task.tables
    → IsVerdict logs case task.section verdict

-- each of the first n sections is sound
abbrev pub AreYes : List Log → ℕ → List Task → Type 0
AreYes logs n tasks = (k : ℕ) (task : Task) → k < n → slice_get tasks k ≡ Some task → IsVerdictOf logs task Yes

-- the section of this number isn't sound, and this is its fault
abbrev pub IsNoAt : List Log → ℕ → SectionFault → List Task → Type 0
IsNoAt logs k fault tasks = (task : Task) × (slice_get tasks k ≡ Some task) × IsVerdictOf logs task (No fault)

-- what is found of the sections: nothing where all are sound, else the first that isn't
abbrev pub IsFoundIn : List Log → List Task → Option UnsoundSection → Type 0
IsFoundIn logs tasks None = AreYes logs (length tasks) tasks
IsFoundIn logs tasks (Some found) = AreYes logs found.section tasks × IsNoAt logs found.section found.fault tasks

-- this is the section of number k, with the candidates of its case
pub record IsTaskOf (logs : List Log) (cases : List (List Conjunct)) (sections : List Section) (k : ℕ)
    (task : Task) : Type 0 where
  pub case : List Conjunct
  pub case_at : slice_get cases k ≡ Some case
  pub section_at : slice_get sections k ≡ Some task.section
  pub different : HasDifferentPlaces case
  pub places : AreBelow (length logs) task.tables
  pub tables : AreTables logs case task.tables

-- these are sections from number first on, one after the other, each with the candidates of its case
abbrev pub AreTasksOf : List Log → List (List Conjunct) → List Section → ℕ → List Task → Type 0
AreTasksOf logs cases sections first tasks =
    (k : ℕ) (task : Task) → slice_get tasks k ≡ Some task → IsTaskOf logs cases sections (first + k) task
