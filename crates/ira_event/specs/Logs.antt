-- The logs of one ring, in the order of its places.
use Rattle.std.specs.Prelude.{◌≡◌, ℕ, ◌<◌, List, length, Some, slice_get}
use Rattle.ira_event.specs.declared.head_fault.HeadFault.{HeadFault}
use Rattle.ira_event.specs.declared.head_fault.HeadFault.TheVariants.{Number, Size, Place, Version}
use Rattle.ira_event.specs.Log.{Log, IsLog}
use Rattle.ira_event.specs.RingSize.{IsRingSize}

-- the fact holds of each log with its number, counted from 0
abbrev pub EachLog : List Log → (ℕ → Log → Type 0) → Type 0
EachLog logs P = (i : ℕ) (log : Log) → slice_get logs i ≡ Some log → P i log

-- there is a log for each node of one ring, log i is that of place i, and all have one version
pub record AreLogs (logs : List Log) : Type 0 where
  pub ring : IsRingSize (length logs)
  pub sizes : EachLog logs (λ i log. log.nodes ≡ length logs)
  pub places : EachLog logs (λ i log. log.place ≡ i)
  pub valid : EachLog logs (λ i log. IsLog log)
  pub version : ℕ
  pub versions : EachLog logs (λ i log. log.version ≡ version)

-- the first log names so many nodes, and there are so many logs
pub record HasNumber (logs : List Log) (nodes : ℕ) : Type 0 where
  pub first : Log
  pub is_first : slice_get logs 0 ≡ Some first
  pub names : first.nodes ≡ nodes
  pub number : length logs ≡ nodes

-- the first log has this version
pub record HasVersion (logs : List Log) (version : ℕ) : Type 0 where
  pub first : Log
  pub is_first : slice_get logs 0 ≡ Some first
  pub names : first.version ≡ version

-- log i is the first of which the fact doesn't hold
pub record IsFirstOther (logs : List Log) (P : ℕ → Log → Type 0) (i : ℕ) : Type 0 where
  pub log : Log
  pub at : slice_get logs i ≡ Some log
  pub other : ¬ (P i log)
  pub least : (j : ℕ) (before : Log) → j < i → slice_get logs j ≡ Some before → P j before

-- the first fault of a list of logs: their number, then a ring size, then a place, then a
-- version
pub data HeadFaultOf (logs : List Log) (f : HeadFault) : Type 0 where
  wrong_number : ((nodes : ℕ) → ¬ (HasNumber logs nodes)) → f ≡ Number → HeadFaultOf logs f
  wrong_size : (nodes i : ℕ) → HasNumber logs nodes → IsFirstOther logs (λ _ log. log.nodes ≡ nodes) i → f ≡ Size i
      → HeadFaultOf logs f
  wrong_place : (nodes i : ℕ) → HasNumber logs nodes → EachLog logs (λ _ log. log.nodes ≡ nodes)
      → IsFirstOther logs (λ j log. log.place ≡ j) i → f ≡ Place i → HeadFaultOf logs f
  wrong_version :
      (nodes version i : ℕ) → HasNumber logs nodes → EachLog logs (λ _ log. log.nodes ≡ nodes)
      → EachLog logs (λ j log. log.place ≡ j)
      → HasVersion logs version → IsFirstOther logs (λ _ log. log.version ≡ version) i → f ≡ Version i
      → HeadFaultOf logs f

-- no list of logs has two head faults
abbrev pub NoLogsHaveTwoHeadFaults : Type 0
NoLogsHaveTwoHeadFaults = (logs : List Log) (f g : HeadFault) → HeadFaultOf logs f → HeadFaultOf logs g → f ≡ g

-- the logs of a ring have no head fault
abbrev pub NoRingHasHeadFaults : Type 0
NoRingHasHeadFaults = (logs : List Log) (f : HeadFault) → AreLogs logs → ¬ (HeadFaultOf logs f)
