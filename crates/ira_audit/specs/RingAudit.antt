-- Helpers, no definitions: what is kept of the texts of a ring's logs while they are taken one by one.
use Rattle.std.specs.Prelude.{◌≡◌, ◌<◌, ◌⊎◌, ℕ, List, Contains, Option, Some, None, Result, Ok, Err, length, map}
use Rattle.std.specs.Prelude.{slice_get, take}
use Rattle.ira_event.specs.declared.log_fault.LogFault.{LogFault}
use Rattle.ira_event.specs.declared.log_fault.LogFault.TheVariants.{OutOfMemory}
use Rattle.ira_event.specs.Log.{Log}
use Rattle.ira_event.specs.LogText.{IsLogText, head_of}
use Rattle.ira_event.specs.LogTextFault.{LogTextFault}
use Rattle.ira_audit.specs.LogTexts.{AreLogTexts}

-- what reading a text gave: the log whose text it is, or its fault, or out of memory
abbrev pub IsReading : List ℕ → Result Log LogFault → Type 0
IsReading text (Ok log) = IsLogText text log
IsReading text (Err f) = (f ≡ OutOfMemory) ⊎ LogTextFault text f

-- some logs, and what is wrong with the text after theirs, if something is
pub record RingAudit : Type 0 where
  pub logs : List Log
  pub fault : Option LogFault

-- without a fault the texts are those of the logs; with one the first texts, as many as there are logs,
-- are those of the logs, and the text after these has the fault
abbrev pub AreKept : List (List ℕ) → List Log → Option LogFault → Type 0
AreKept texts logs None = AreLogTexts texts logs
AreKept texts logs (Some f) =
    AreLogTexts (take (length logs) texts) logs
    × ((text : List ℕ) × (slice_get texts (length logs) ≡ Some text) × LogTextFault text f)

-- one of the logs names fewer nodes than there are logs, so they aren't those of one ring
abbrev pub AreTooMany : List Log → Type 0
AreTooMany logs = (log : Log) × Contains logs log × (log.nodes < length logs)

-- these logs are kept for those ones: they are the same, or have at least the same heads where there are too many
abbrev pub StandFor : List Log → List Log → Type 0
StandFor kept logs = (kept ≡ logs) ⊎ ((map head_of kept ≡ map head_of logs) × AreTooMany logs)

-- these texts were taken, in this order
abbrev pub HasTaken : RingAudit → List (List ℕ) → Type 0
HasTaken audit texts = (logs : List Log) × AreKept texts logs audit.fault × StandFor audit.logs logs
