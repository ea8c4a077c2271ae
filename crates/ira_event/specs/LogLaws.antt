-- What holds of logs and their texts, whoever reads or writes them.
use Rattle.std.specs.Prelude.{◌≡◌, ◌↔◌, ◌⊎◌, ℕ, List}
use Rattle.ira_event.specs.declared.log_fault.LogFault.{LogFault}
use Rattle.ira_event.specs.declared.log_fault.LogFault.TheVariants.{OutOfMemory}
use Rattle.ira_event.specs.Log.{Log, IsLog}
use Rattle.ira_event.specs.LogText.{IsLogText, log_text}
use Rattle.ira_event.specs.LogTextFault.{LogTextFault}

-- each log has one text, the one written out
abbrev pub EachLogHasOneText : Type 0
EachLogHasOneText = (text : List ℕ) (log : Log) → IsLogText text log ↔ (IsLog log × (text ≡ log_text log))

-- no text belongs to two logs
abbrev pub NoTextIsTwoLogs : Type 0
NoTextIsTwoLogs = (text : List ℕ) (a b : Log) → IsLogText text a → IsLogText text b → a ≡ b

-- the text of a log has no fault
abbrev pub NoLogTextHasFaults : Type 0
NoLogTextHasFaults = (text : List ℕ) (log : Log) (f : LogFault) → IsLogText text log → ¬ (LogTextFault text f)

-- no text has two faults
abbrev pub NoTextHasTwoFaults : Type 0
NoTextHasTwoFaults = (text : List ℕ) (f g : LogFault) → LogTextFault text f → LogTextFault text g → f ≡ g

-- each text is a log's or has a fault
abbrev pub EachTextHasAnAnswer : Type 0
EachTextHasAnAnswer = (text : List ℕ) → ((log : Log) × IsLogText text log) ⊎ ((f : LogFault) × LogTextFault text f)

-- to be out of memory is no fault of a text
abbrev pub NoTextIsOutOfMemory : Type 0
NoTextIsOutOfMemory = (text : List ℕ) → ¬ (LogTextFault text OutOfMemory)
