-- What is left of logs that break off, as texts.
use Rattle.std.specs.Prelude.{◌≡◌, ◌⊎◌, ℕ, List, map, true}
use Rattle.ira_event.specs.Log.{Log}
use Rattle.ira_event.specs.LogText.{log_text}
use Rattle.ira_event.specs.Logs.{AreLogs}
use Rattle.ira_event.specs.Sink.{Memory}
use Rattle.ira_event.specs.declared.log_fault.LogFault.{LogFault}
use Rattle.ira_event.specs.declared.log_fault.LogFault.TheVariants.{Head}
use Rattle.ira_mend.specs.Mended.{IsGreatestOf}
use Rattle.ira_mend.specs.RecordedLogs.{AreLeftTexts, BreaksOff}
use Rattle.ira_audit.specs.declared.answer.Answer.{Answer}
use Rattle.ira_audit.specs.declared.answer.Answer.TheVariants.{No}
use Rattle.ira_audit.specs.declared.reason.Reason.TheVariants as reason
use Rattle.ira_view_page.specs.declared.named_text.NamedText.{NamedText}
use Rattle.ira_view.specs.Texts.{AreFiles, texts_of}

-- the answer is no, since the text of a log breaks off, or begins with no head
abbrev pub SaysBreaksOff : Answer → Type 0
SaysBreaksOff answer =
    (place : ℕ) × (f : LogFault) × (BreaksOff f ⊎ (f ≡ Head)) × (answer ≡ No (reason.Log place f))

-- these are the greatest consistent beginning of the logs of which the texts are left; a node of whose log no head is left is
-- taken for an initiator
pub record AreBegunLogs (texts : List (List ℕ)) (begun : List Log) : Type 0 where
  pub logs : List Log
  pub left : AreLeftTexts true texts logs
  pub are : AreLogs logs
  pub greatest : IsGreatestOf logs begun

-- the same as texts
abbrev pub AreBegunTexts : List (List ℕ) → List (List ℕ) → Type 0
AreBegunTexts texts begun = (logs : List Log) × AreBegunLogs texts logs × (begun ≡ map log_text logs)

-- the names of files
abbrev pub names_of : List NamedText → List (List ℕ)
names_of files = map (λ file. file.name.now) files

-- such texts in files of the same names
abbrev pub AreBegunFiles : List NamedText → List NamedText → Type 0
AreBegunFiles files begun =
    (texts : List (List ℕ)) × AreBegunTexts (texts_of files) texts × AreFiles (names_of files) texts begun

-- ---- Helpers, no definitions.

-- what sinks in memory took
abbrev pub bytes_of : List Memory → List (List ℕ)
bytes_of sinks = map (λ sink. sink.bytes) sinks
