-- What is said of sections that are held against the cases of their numbers.
use Rattle.std.specs.Prelude.{◌≡◌, ℕ, ◌<◌, List, Option, Some, None, length, slice_get}
use Rattle.ira_event.specs.Log.{Log}
use Rattle.ira_pred.specs.Case.{Conjunct}
use Rattle.ira_cert_text.specs.Certificate.{Section}
use Rattle.ira_cert.specs.declared.section_fault.SectionFault.{SectionFault}
use Rattle.ira_cert.specs.SectionFault.{IsSectionFault}
use Rattle.ira_cert.specs.SoundSection.{IsSoundSection}
use Rattle.ira_par.specs.declared.unsound_section.UnsoundSection.{UnsoundSection}

-- each section before number n is sound for the case of its number
abbrev pub AreSoundBefore : ℕ → List Log → List (List Conjunct) → List Section → Type 0
AreSoundBefore n logs cases sections =
    (k : ℕ) (case : List Conjunct) (section : Section) → k < n → slice_get cases k ≡ Some case
    → slice_get sections k ≡ Some section → IsSoundSection logs case section

-- section k, counted from 0, is the first that isn't sound for the case of its number, and this is its fault
pub record IsFirstUnsoundSection (logs : List Log) (cases : List (List Conjunct)) (sections : List Section) (k : ℕ)
    (fault : SectionFault) : Type 0 where
  pub before : AreSoundBefore k logs cases sections
  pub case : List Conjunct
  pub case_at : slice_get cases k ≡ Some case
  pub section : Section
  pub section_at : slice_get sections k ≡ Some section
  pub is_fault : IsSectionFault logs case section fault

-- what is found of sections: nothing where all are sound, else the first that isn't
abbrev pub IsFound : List Log → List (List Conjunct) → List Section → Option UnsoundSection → Type 0
IsFound logs cases sections None = AreSoundBefore (length sections) logs cases sections
IsFound logs cases sections (Some found) = IsFirstUnsoundSection logs cases sections found.section found.fault
