-- What a collector has taken of the nodes of a ring: for each place the log and the end of its part,
-- where one was taken.
use Rattle.std.specs.Prelude.{◌≡◌, ◌≢◌, ℕ, ◌≤◌, ◌⊎◌, Bool, true, nat_eq, List, Option, Some, None, length, slice_get}
use Rattle.std.specs.Prelude.{map}
use Rattle.std.specs.List.{zip}
use Rattle.ira_event.specs.Log.{Log, IsLog}
use Rattle.ira_event.specs.RingSize.{IsRingSize}
use Rattle.ira_ring_setup.specs.declared.node_end.NodeEnd.{NodeEnd}
use Rattle.ira_ring_setup.specs.declared.node_end.NodeEnd.TheVariants.{Stopped}
use Rattle.ira_ring_setup.specs.declared.run_fault.RunFault.{RunFault}
use Rattle.ira_ring_setup.specs.declared.run_fault.RunFault.TheVariants.{NoEnd, Stranger, Double}
use Rattle.ira_ring_setup.specs.Run.{Run}

-- there is a place for each node of a ring of this size, each log is of that ring and its place, and all
-- are of one version
pub record AreTaken (nodes : ℕ) (taken : List (Option (Log × NodeEnd))) : Type 0 where
  pub ring : IsRingSize nodes
  pub places : length taken ≡ nodes
  pub fit : (i : ℕ) (log : Log) (end : NodeEnd) → slice_get taken i ≡ Some (Some (log, end)) → (log.nodes ≡ nodes)
      × (log.place ≡ i) × IsLog log
  pub alike : (i j : ℕ) (log other : Log) (end last : NodeEnd) → slice_get taken i ≡ Some (Some (log, end))
      → slice_get taken j ≡ Some (Some (other, last)) → log.version ≡ other.version

-- a part was taken whose log has another version
abbrev pub HasOtherVersion : List (Option (Log × NodeEnd)) → Log → Type 0
HasOtherVersion taken log =
    (i : ℕ) × (other : Log) × (end : NodeEnd) × (slice_get taken i ≡ Some (Some (other, end)))
    × (other.version ≢ log.version)

-- the part is for no place of the ring, or its log for another ring or another place, or of another version
-- than one that was taken
abbrev pub IsStranger : List (Option (Log × NodeEnd)) → ℕ → Log → Type 0
IsStranger taken place log =
    (length taken ≤ place) ⊎ (log.nodes ≢ length taken) ⊎ (log.place ≢ place) ⊎ HasOtherVersion taken log

-- a part of this place was taken
abbrev pub IsTaken : List (Option (Log × NodeEnd)) → ℕ → Type 0
IsTaken taken place = (part : Log × NodeEnd) × (slice_get taken place ≡ Some (Some part))

-- why a part is refused: it is a stranger; else a part of its place was taken
abbrev pub PartFaultOf : List (Option (Log × NodeEnd)) → ℕ → Log → RunFault → Type 0
PartFaultOf taken place log f =
    (IsStranger taken place log × (f ≡ Stranger))
    ⊎ (¬ (IsStranger taken place log) × IsTaken taken place × (f ≡ Double))

-- the part stands at its place, and each other place is as it was
pub record KeepsPart (old : List (Option (Log × NodeEnd))) (place : ℕ) (part : Log
    × NodeEnd) (new : List (Option (Log × NodeEnd))) : Type 0 where
  pub number : length new ≡ length old
  pub at : slice_get new place ≡ Some (Some part)
  pub others : (i : ℕ) → i ≢ place → slice_get new i ≡ slice_get old i

-- there is such a place, and no part of it was taken
abbrev pub IsMissing : List (Option (Log × NodeEnd)) → ℕ → Type 0
IsMissing taken place = slice_get taken place ≡ Some None

-- a part is missing, or every end is `Stopped`
abbrev pub HasNoEnd : List (Option (Log × NodeEnd)) → Type 0
HasNoEnd taken =
    ((place : ℕ) × IsMissing taken place)
    ⊎ ((i : ℕ) (log : Log) (end : NodeEnd) → slice_get taken i ≡ Some (Some (log, end)) → end ≡ Stopped)

-- why the parts are no run
abbrev pub FinishFaultOf : List (Option (Log × NodeEnd)) → RunFault → Type 0
FinishFaultOf taken f = HasNoEnd taken × (f ≡ NoEnd)

-- of each place a part was taken, and the run has its log and its end at that place
pub record AreParts (taken : List (Option (Log × NodeEnd))) (run : Run) : Type 0 where
  pub logs : length run.logs ≡ length taken
  pub ends : length run.ends ≡ length taken
  pub parts : taken ≡ map (λ part. Some part) (zip run.logs run.ends)

-- A helper, no definition: whether the log of a part is of this version, where there is one.
abbrev pub has_version : ℕ → Option (Log × NodeEnd) → Bool
has_version version None = true
has_version version (Some part) = nat_eq part.0.version version
