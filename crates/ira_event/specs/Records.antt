-- Helpers, no definitions: what stands after the head of a log text, read record by record.
use Rattle.std.specs.Prelude.{◌≡◌, ◌≢◌, ℕ, ◌+◌, ◌⊎◌, true, false, List, ◌++◌, length, ⊤, codes, Option, Some, None}
use Rattle.std.specs.Prelude.{Result, Ok, Err}
use Rattle.ira_event.specs.Limits.{MAX_RECORDS}
use Rattle.ira_event.specs.declared.event.Event.{Event}
use Rattle.ira_event.specs.declared.log_fault.LogFault.{LogFault}
use Rattle.ira_event.specs.Event.{is_event, is_of_version}
use Rattle.ira_event.specs.declared.log_line.LogLine.TheVariants.{Record}
use Rattle.ira_event.specs.LogScan.{line_at}
use Rattle.ira_event.specs.LogText.{IsRecord, IsEnd}
use Rattle.ira_event.specs.LogTextFault.{BeginsWithRecords, RestFault}

-- the version of the log, what was not read yet, and how many records were
pub record RecordsLeft : Type 0 where
  pub version : ℕ
  pub rest : List ℕ
  pub count : ℕ

-- the line of this event within the limits was read
pub record ReadsRecord (old new : RecordsLeft) (e : Event) : Type 0 where
  pub line : List ℕ
  pub is : IsRecord line e
  pub number : is_event e ≡ true
  pub held : is_of_version old.version e ≡ true
  pub few : old.count ≢ MAX_RECORDS
  pub rest : old.rest ≡ line ++ codes "\n" ++ new.rest
  pub count : new.count ≡ old.count + 1
  pub version : new.version ≡ old.version

-- all that is left is the end line of the records that were read
pub record IsAtEnd (left : RecordsLeft) : Type 0 where
  pub line : List ℕ
  pub is : IsEnd line left.count
  pub rest : left.rest ≡ line ++ codes "\n"

-- reading on gave the next record's event, no event at the end, or the fault of what is left; where it gave no
-- event nothing more was read
abbrev pub ReadsOn : RecordsLeft → RecordsLeft → Result (Option Event) LogFault → Type 0
ReadsOn old new (Ok (Some e)) = ReadsRecord old new e
ReadsOn old new (Ok None) = IsAtEnd old × (new ≡ old)
ReadsOn old new (Err f) = RestFault old.version old.count old.rest f × (new ≡ old)

-- the text begins with the lines of these events, which were read, and this is left of it
abbrev pub HasRead : List ℕ → List Event → RecordsLeft → Type 0
HasRead text events left = BeginsWithRecords left.version text events left.rest × (length events ≡ left.count)

-- this is left of the records: the end line of those that were read, alone, or something with this fault
abbrev pub IsEndOrFault : RecordsLeft → Result ⊤ LogFault → Type 0
IsEndOrFault left (Ok done) = IsAtEnd left
IsEndOrFault left (Err f) = RestFault left.version left.count left.rest f

-- no record of this version stands at the front, nor an end line
abbrev pub IsUnread : ℕ → List ℕ → Type 0
IsUnread version text =
    (line_at text ≡ None)
    ⊎ ((e : Event) × (after : List ℕ) × (line_at text ≡ Some (Record e, after)) × (is_of_version version e ≡ false))
