-- What a crash left of the texts of a ring's logs.
use Rattle.std.specs.Prelude.{◌≡◌, ◌<◌, ◌≤◌, ◌↔◌, ◌⊎◌, ℕ, suc, Bool, true, false, IsTrue, List, [], ◌∷◌, ◌++◌, Option, Some, None}
use Rattle.std.specs.Prelude.{Result, Ok, Err, codes, length, slice_get, take, ⊤}
use Rattle.std.specs.List.{All, AllZip}
use Rattle.ira_event.specs.Limits.{MAX_TEXT}
use Rattle.ira_event.specs.declared.event.Event.{Event}
use Rattle.ira_event.specs.declared.head_fault.HeadFault.{HeadFault}
use Rattle.ira_event.specs.declared.head_fault.HeadFault.TheVariants.{Number}
use Rattle.ira_event.specs.declared.log_fault.LogFault.{LogFault}
use Rattle.ira_event.specs.declared.log_fault.LogFault.TheVariants.{Cut, Head, OutOfMemory, TooMany}
use Rattle.ira_event.specs.declared.log_head.LogHead.{LogHead}
use Rattle.ira_event.specs.Log.{Log, IsLog}
use Rattle.ira_event.specs.LogText.{IsEnd, IsLogText, head_of, log_text}
use Rattle.ira_event.specs.LogTextFault.{BeginsWithHead, BeginsWithNoHead, BeginsWithRecords, LogTextFault, RecordsFault}
use Rattle.ira_event.specs.LogTextFault.{RestFault}
use Rattle.ira_event.specs.Logs.{HeadFaultOf}
use Rattle.ira_event.specs.Records.{IsAtEnd, ReadsRecord, RecordsLeft}
use Rattle.ira_audit.specs.declared.reason.Reason.{Reason}
use Rattle.ira_audit.specs.declared.reason.Reason.TheVariants as reason
use Rattle.ira_mend.specs.declared.recorded_log.RecordedLog.{RecordedLog}
use Rattle.ira_mend.specs.declared.recorded_log.RecordedLog.TheVariants as taken

-- the fault of a text that ends within its records, or has more of them than a log may have
abbrev pub BreaksOff : LogFault → Type 0
BreaksOff f = (f ≡ Cut) ⊎ (f ≡ TooMany)

-- after this many records of the version comes nothing, a piece of a line, or a record too many
abbrev pub BreaksOffAfter : ℕ → ℕ → List ℕ → Type 0
BreaksOffAfter version k rest = (f : LogFault) × BreaksOff f × RestFault version k rest f

-- the text is the log's head and the lines of its records, all within the limits, and breaks off
pub record IsCutText (text : List ℕ) (log : Log) : Type 0 where
  pub few : length text ≤ MAX_TEXT
  pub lines : List ℕ
  pub head : BeginsWithHead text (head_of log) lines
  pub piece : List ℕ
  pub records : BeginsWithRecords log.version lines log.events piece
  pub cut : BreaksOffAfter log.version (length log.events) piece

-- the text is that of the log, or begins so and breaks off
abbrev pub IsRecordedText : List ℕ → Log → Type 0
IsRecordedText text log = IsLogText text log ⊎ IsCutText text log

-- the first of the texts that is that of a log, or begins so and breaks off, is of this log
pub record RecordsLog (texts : List (List ℕ)) (log : Log) : Type 0 where
  pub number : ℕ
  pub text : List ℕ
  pub at : slice_get texts number ≡ Some text
  pub recorded : IsRecordedText text log
  pub first : (i : ℕ) (before : List ℕ) (other : Log) → i < number → slice_get texts i ≡ Some before
      → ¬ (IsRecordedText before other)

-- the log without events of the node at this place of the ring that a head names
abbrev pub empty_log : LogHead → ℕ → Bool → Log
empty_log head place initiator = record {
  version = head.version;
  nodes = head.nodes;
  place = place;
  initiator = initiator;
  events = [];
}

-- the text ends within its head, and begins as that of the log does
pub record IsCutHead (text : List ℕ) (log : Log) : Type 0 where
  pub rest : List ℕ
  pub parts : text ++ rest ≡ log_text log
  pub within : BeginsWithNoHead text

-- no event is left of the log of the node at this place, and its head is cut: the log is one of the same ring, and of
-- the start that is guessed, but where the text is of the other
pub record IsLost (ring : LogHead) (guess : Bool) (place : ℕ) (text : List ℕ) (log : Log) : Type 0 where
  pub in_ring : place < ring.nodes
  pub start : Bool
  pub empty : log ≡ empty_log ring place start
  pub piece : IsCutHead text log
  pub guessed : IsCutHead text (empty_log ring place guess) → start ≡ guess

-- what is left of the log of the node at this place is this text
abbrev pub IsLeftText : LogHead → Bool → ℕ → List ℕ → Log → Type 0
IsLeftText ring guess place text log = IsRecordedText text log ⊎ IsLost ring guess place text log

-- what is left of the logs from this place on are these texts, as many as there are logs
abbrev pub LeftTextsFrom : ℕ → LogHead → Bool → List (List ℕ) → List Log → Type 0
LeftTextsFrom place ring guess [] [] = ⊤
LeftTextsFrom place ring guess (text ∷ texts) (log ∷ logs) =
    IsLeftText ring guess place text log × LeftTextsFrom (suc place) ring guess texts logs
LeftTextsFrom place ring guess texts logs = ⊥

-- what is left of these logs are these texts, of which the first that is a log's, cut or not, names the ring; the start
-- of a node of whose log no head is left is guessed
pub record AreLeftTexts (guess : Bool) (texts : List (List ℕ)) (logs : List Log) : Type 0 where
  pub ring : Log
  pub recorded : RecordsLog texts ring
  pub each : LeftTextsFrom 0 (head_of ring) guess texts logs

-- the text isn't what is left of the log of the node at this place, and its fault is the reason
abbrev pub IsNotLeft : LogHead → Bool → ℕ → List ℕ → Reason → Type 0
IsNotLeft ring guess place text r = (f : LogFault) × (r ≡ reason.Log place f) × LogTextFault text f
    × ((log : Log) → ¬ (IsLeftText ring guess place text log))

-- text i, counted from 0, is the first that isn't what is left of the log of its node, which is the reason
pub record IsFirstNotLeft (guess : Bool) (texts : List (List ℕ)) (i : ℕ) (r : Reason) : Type 0 where
  pub ring : Log
  pub recorded : RecordsLog texts ring
  pub before : List Log
  pub before_are : LeftTextsFrom 0 (head_of ring) guess (take i texts) before
  pub text : List ℕ
  pub at : slice_get texts i ≡ Some text
  pub why : IsNotLeft (head_of ring) guess i text r

-- the text begins with no head, and is no longer than a head may be
abbrev pub IsShort : List ℕ → Type 0
IsShort text = LogTextFault text Head × (length text ≤ 100)

-- no text is a log's, cut or not: there is none, or all are short, or the first that isn't has this fault
pub data IsFirstFault (texts : List (List ℕ)) (r : Reason) : Type 0 where
  nothing : texts ≡ [] → r ≡ reason.Heads Number → IsFirstFault texts r
  short : 0 < length texts → All IsShort texts → r ≡ reason.Log 0 Head → IsFirstFault texts r
  faulty : (i : ℕ) (text : List ℕ) (f : LogFault) → slice_get texts i ≡ Some text → All IsShort (take i texts)
      → ¬ (IsShort text) → LogTextFault text f → r ≡ reason.Log i f → IsFirstFault texts r

-- why the texts aren't what is left of the logs of one ring
pub data IsRecordedReason (guess : Bool) (texts : List (List ℕ)) (r : Reason) : Type 0 where
  no_log : (number : ℕ) → IsFirstNotLeft guess texts number r → IsRecordedReason guess texts r
  no_ring : (logs : List Log) (f : HeadFault) → AreLeftTexts guess texts logs → HeadFaultOf logs f
      → r ≡ reason.Heads f → IsRecordedReason guess texts r
  none : ((log : Log) → ¬ (RecordsLog texts log)) → IsFirstFault texts r → IsRecordedReason guess texts r

-- it is said of a text whether it begins with no head
abbrev pub SaysLost : List ℕ → Bool → Type 0
SaysLost text is_lost = IsTrue is_lost ↔ LogTextFault text Head

-- What follows helps to say what was taken.

-- reading on gave the next record's event, none at the end line or where the text breaks off, or another fault of what is
-- left; where it gave no event nothing more was read
abbrev pub ReadsWholeLine : RecordsLeft → RecordsLeft → Result (Option Event) LogFault → Type 0
ReadsWholeLine old new (Ok (Some e)) = ReadsRecord old new e
ReadsWholeLine old new (Ok None) = (IsAtEnd old ⊎ BreaksOffAfter old.version old.count old.rest) × (new ≡ old)
ReadsWholeLine old new (Err f) = RestFault old.version old.count old.rest f × ¬ (BreaksOff f) × (new ≡ old)

-- the text is the lines of these events, all of this version and within the limits, and then their end line, or it breaks
-- off
pub record HasReadLines (version : ℕ) (text : List ℕ) (events : List Event) : Type 0 where
  pub tail : List ℕ
  pub begins : BeginsWithRecords version text events tail
  pub ends : ((end : List ℕ) × IsEnd end (length events) × (tail ≡ end ++ codes "\n"))
      ⊎ BreaksOffAfter version (length events) tail

-- a reader of what stands after a head answered its events, its fault, or that memory ran out
abbrev pub AreReadLines : {X : Type 0} → ℕ → (X → List Event) → Result X LogFault → List ℕ → Type 0
AreReadLines version view (Ok v) text = HasReadLines version text (view v)
AreReadLines version view (Err f) text = (f ≡ OutOfMemory) ⊎ (RecordsFault version text f × ¬ (BreaksOff f))

-- what reading a text gave: the log, cut or not, or the fault, or out of memory
abbrev pub IsRecordedReading : List ℕ → Result Log LogFault → Type 0
IsRecordedReading text (Ok log) = IsRecordedText text log
IsRecordedReading text (Err f) = (f ≡ OutOfMemory) ⊎ (LogTextFault text f × ¬ (BreaksOff f))

-- what was taken of a text: its log, cut or not; its bytes, where it is short; or its fault, which isn't that it breaks
-- off, and where it begins with no head it is longer than any
abbrev pub IsRecordOf : {A : Type 0} → List ℕ → RecordedLog A → Type 0
IsRecordOf text (taken.Log log) = IsRecordedText text log
IsRecordOf text (taken.Short bytes) = (text ≡ bytes.items) × IsShort text
IsRecordOf text (taken.Faulty f) = LogTextFault text f × ¬ (BreaksOff f) × (f ≡ Head → 100 < length text)

-- whether that text begins with no head
abbrev pub is_lost : {A : Type 0} → RecordedLog A → Bool
is_lost (taken.Short bytes) = true
is_lost (taken.Faulty Head) = true
is_lost other = false

-- whether that text is short
abbrev pub is_short : {A : Type 0} → RecordedLog A → Bool
is_short (taken.Short bytes) = true
is_short other = false

-- these texts were taken, in this order
abbrev pub HasRecorded : {A : Type 0} → List (RecordedLog A) → List (List ℕ) → Type 0
HasRecorded recorded texts = AllZip IsRecordOf texts recorded

-- no log was taken
abbrev pub HasNoLog : {A : Type 0} → List (RecordedLog A) → Type 0
HasNoLog recorded = (i : ℕ) (log : Log) → slice_get recorded i ≡ Some (taken.Log log) → ⊥

-- this is the head of the first log that was taken
pub record HasHeadOfLog {A : Type 0} (recorded : List (RecordedLog A)) (head : LogHead) : Type 0 where
  pub number : ℕ
  pub log : Log
  pub at : slice_get recorded number ≡ Some (taken.Log log)
  pub first : (i : ℕ) (other : Log) → i < number → slice_get recorded i ≡ Some (taken.Log other) → ⊥
  pub valid : IsLog log
  pub is : head ≡ head_of log
