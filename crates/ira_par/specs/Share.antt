-- Helpers, no definitions: what the threads find that judge a range of each section.
use Rattle.std.specs.Prelude.{◌≡◌, ℕ, ◌<◌, ◌≤◌, ◌⊎◌, List, [], ◌∷◌, Option, Some, None, slice_get}
use Rattle.ira_event.specs.Log.{Log}
use Rattle.ira_cert.specs.declared.section_fault.SectionFault.{SectionFault}
use Rattle.ira_par.specs.declared.unsound_section.UnsoundSection.{UnsoundSection}
use Rattle.ira_par.specs.CandidateTable.{AreBelow}
use Rattle.ira_par.specs.Task.{Task, IsFoundFor}

-- for how many places there is room, and the first section in whose range a fault was found
pub record Share : Type 0 where
  pub places : ℕ
  pub found : Option UnsoundSection

-- the tables of each section are of places below this one
abbrev pub HavePlaces : ℕ → List Task → Type 0
HavePlaces places tasks = (k : ℕ) (task : Task) → slice_get tasks k ≡ Some task → AreBelow places task.tables

-- nothing is found in range r of 2 ^ depth of the first k sections
abbrev pub AreClear : List Log → ℕ → ℕ → ℕ → List Task → Type 0
AreClear logs depth r k tasks =
    (j : ℕ) (task : Task) → j < k → slice_get tasks j ≡ Some task → IsFoundFor logs depth r task None

-- this is found in range r of 2 ^ depth of section k
abbrev pub IsFoundAt : List Log → ℕ → ℕ → ℕ → SectionFault → List Task → Type 0
IsFoundAt logs depth r k fault tasks =
    (task : Task) × (slice_get tasks k ≡ Some task) × IsFoundFor logs depth r task (Some fault)

-- what is found in range r of 2 ^ depth of the first k sections: nothing in any, or this in the first in which
-- something is
abbrev pub IsFoundBy : List Log → ℕ → ℕ → ℕ → List Task → Option UnsoundSection → Type 0
IsFoundBy logs depth r k tasks None = AreClear logs depth r k tasks
IsFoundBy logs depth r k tasks (Some found) =
    AreClear logs depth r found.section tasks × IsFoundAt logs depth r found.section found.fault tasks

-- of what two shares found this is what the earlier section has, and of the same section the left share
abbrev pub IsEarlier : Option UnsoundSection → Option UnsoundSection → Option UnsoundSection → Type 0
IsEarlier None right found = found ≡ right
IsEarlier (Some a) None found = found ≡ Some a
IsEarlier (Some a) (Some b) found =
    ((a.section ≤ b.section) × (found ≡ Some a)) ⊎ ((b.section < a.section) × (found ≡ Some b))

-- so it is of all shares
abbrev pub IsFirstFound : List Share → Option UnsoundSection → Type 0
IsFirstFound [] found = found ≡ None
IsFirstFound (share ∷ shares) found =
    (others : Option UnsoundSection) × IsFirstFound shares others × IsEarlier share.found others found
