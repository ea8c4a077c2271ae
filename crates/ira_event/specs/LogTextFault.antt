-- The fault of a text that is no log's: the first one, line by line.
use Rattle.std.specs.Prelude.{◌≡◌, ◌≢◌, ℕ, ◌+◌, ◌<◌, ◌≤◌, ◌⊎◌, true, false, List, [], ◌++◌, length, codes, Result, Ok}
use Rattle.std.specs.Prelude.{Err}
use Rattle.std.specs.List.{list_all}
use Rattle.ira_event.specs.Limits.{MAX_RECORDS, MAX_TEXT}
use Rattle.ira_event.specs.declared.event.Event.{Event}
use Rattle.ira_event.specs.declared.log_fault.LogFault.{LogFault}
use Rattle.ira_event.specs.declared.log_fault.LogFault.TheVariants.{TooLong, Head, Line, Range, TooMany, Cut, Count}
use Rattle.ira_event.specs.declared.log_fault.LogFault.TheVariants.{Trailing, OutOfMemory}
use Rattle.ira_event.specs.declared.log_head.LogHead.{LogHead}
use Rattle.ira_event.specs.Event.{is_event, is_of_version}
use Rattle.ira_event.specs.LogText.{IsHead, IsRecord, AreRecords, IsEnd}
use Rattle.ira_event.specs.NextLine.{NextLineFault}
use Rattle.ira_event.specs.RingSize.{IsRingSize, FitsVersion}
use Rattle.ira_event.specs.Version.{IsVersion}
pub use Rattle.ira_event.specs.NextLine.{HasNoLineFeed, cut, at_line}

-- the text begins with a head of the grammar whose numbers are in range, and goes on with the rest
pub record BeginsWithHead (text : List ℕ) (head : LogHead) (rest : List ℕ) : Type 0 where
  pub lines : List ℕ
  pub lines_are : IsHead lines head
  pub version : IsVersion head.version
  pub size : IsRingSize head.nodes
  pub fits : FitsVersion head.version head.nodes
  pub in_ring : head.place < head.nodes
  pub parts : text ≡ lines ++ rest

-- the text begins with no head
abbrev pub BeginsWithNoHead : List ℕ → Type 0
BeginsWithNoHead text = (head : LogHead) (rest : List ℕ) → ¬ (BeginsWithHead text head rest)

-- the text begins with the lines of these events, all of this version and within the limits, and goes on
-- with the rest
pub record BeginsWithRecords (version : ℕ) (text : List ℕ) (events : List Event) (rest : List ℕ) : Type 0 where
  pub records : List ℕ
  pub records_are : AreRecords records events
  pub count : length events ≤ MAX_RECORDS
  pub numbers : list_all is_event events ≡ true
  pub held : list_all (is_of_version version) events ≡ true
  pub parts : text ≡ records ++ rest

-- the line begins with the word of a record that has more than that
abbrev pub BeginsWithWord : List ℕ → Type 0
BeginsWithWord line =
    ((rest : List ℕ) × (line ≡ codes "draw " ++ rest))
    ⊎ ((rest : List ℕ) × (line ≡ codes "send " ++ rest))
    ⊎ ((rest : List ℕ) × (line ≡ codes "recv " ++ rest))

-- the line begins as a record of this version does; a yield is a whole line
abbrev pub BeginsAsRecord : ℕ → List ℕ → Type 0
BeginsAsRecord version line = BeginsWithWord line ⊎ ((1 < version) × (line ≡ codes "yield"))

-- the fault of a complete line after the head of a log of this version and k records, with `more` after its line
-- feed; it
-- is line k + 5 of the text
pub data LineFault (version k : ℕ) (line more : List ℕ) (f : LogFault) : Type 0 where
  -- it begins as a record does, after the last record allowed
  too_many : k ≡ MAX_RECORDS → BeginsAsRecord version line → f ≡ TooMany → LineFault version k line more f
  -- it is neither a record of this version nor an end line
  no_line :
      (k ≡ MAX_RECORDS → ¬ (BeginsAsRecord version line))
      → ((e : Event) → is_of_version version e ≡ true → ¬ (IsRecord line e)) → ((n : ℕ) → ¬ (IsEnd line n))
      → f ≡ Line (k + 5) → LineFault version k line more f
  -- it is a record of this version with a number out of range
  out_of_range : (e : Event) → k ≢ MAX_RECORDS → is_of_version version e ≡ true → IsRecord line e → is_event e ≡ false
      → f ≡ Range (k + 5) → LineFault version k line more f
  -- it is an end line of another number of records
  other_count : (n : ℕ) → IsEnd line n → n ≢ k → f ≡ Count → LineFault version k line more f
  -- it is the end line, and something follows it
  trailing : IsEnd line k → more ≢ [] → f ≡ Trailing → LineFault version k line more f

-- the fault of what stands after the head and k records
abbrev pub RestFault : ℕ → ℕ → List ℕ → LogFault → Type 0
RestFault version k rest f = NextLineFault Cut (LineFault version k) rest f

-- the fault of what stands after the head: after records within the limits comes something with a fault
pub record RecordsFault (version : ℕ) (text : List ℕ) (f : LogFault) : Type 0 where
  pub events : List Event
  pub rest : List ℕ
  pub begins : BeginsWithRecords version text events rest
  pub fault : RestFault version (length events) rest f

-- the fault of a text that isn't too long
pub data LinesFault (text : List ℕ) (f : LogFault) : Type 0 where
  -- it begins with no head
  no_head : BeginsWithNoHead text → f ≡ Head → LinesFault text f
  -- what stands after its head has a fault
  past_head :
      (head : LogHead) (rest : List ℕ) → BeginsWithHead text head rest → RecordsFault head.version rest f
      → LinesFault text f

-- the fault of a text
abbrev pub LogTextFault : List ℕ → LogFault → Type 0
LogTextFault text f =
    ((MAX_TEXT < length text) × (f ≡ TooLong)) ⊎ ((length text ≤ MAX_TEXT) × LinesFault text f)

-- the fault of a text that is too long or begins with no head
abbrev pub OpeningFault : List ℕ → LogFault → Type 0
OpeningFault text f =
    ((MAX_TEXT < length text) × (f ≡ TooLong)) ⊎ ((length text ≤ MAX_TEXT) × BeginsWithNoHead text × (f ≡ Head))

-- the text is the lines of these events, all of this version and within the limits, and their end line
pub record AreAllRecords (version : ℕ) (text : List ℕ) (events : List Event) : Type 0 where
  pub end : List ℕ
  pub end_is : IsEnd end (length events)
  pub begins : BeginsWithRecords version text events (end ++ codes "\n")

-- a reader of what stands after a head answered its events, its fault, or that memory ran out
abbrev pub RecordsRead : {X : Type 0} → ℕ → (X → List Event) → Result X LogFault → List ℕ → Type 0
RecordsRead version view (Ok v) text = AreAllRecords version text (view v)
RecordsRead version view (Err f) text = (f ≡ OutOfMemory) ⊎ RecordsFault version text f
