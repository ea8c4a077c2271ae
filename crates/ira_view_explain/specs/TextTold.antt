-- What is told of a text that is no log's.
use Rattle.std.specs.Prelude.{◌≡◌, ◌⊎◌, ℕ, ◌+◌, ◌<◌, ◌≤◌, List, [], ◌∷◌, Option, codes, length}
use Rattle.ira_event.specs.Limits.{MAX_RECORDS}
use Rattle.ira_event.specs.LogTextFault.{BeginsWithHead, BeginsWithRecords, RestFault}
use Rattle.ira_event.specs.declared.event.Event.{Event}
use Rattle.ira_event.specs.declared.log_fault.LogFault.{LogFault}
use Rattle.ira_event.specs.declared.log_fault.LogFault.TheVariants as fault
use Rattle.ira_event.specs.declared.log_head.LogHead.{LogHead}
use Rattle.ira_view_page.specs.Beside.{Said, due, note}
use Rattle.ira_view_page.specs.Lines.{IsLine, whole_lines}
use Rattle.ira_view_page.specs.TextStop.{IsCutStop, IsPiece, IsStopTold, IsWholeLine, after_end, stop_at}
use Rattle.ira_view_page.specs.declared.evidence.Evidence.{Evidence}
use Rattle.ira_view_page.specs.declared.named_text.NamedText.{NamedText}
use Rattle.ira_view_page.specs.declared.pointed_line.PointedLine.{PointedLine}
use Rattle.ira_view_page.specs.declared.text_stop.TextStop.{TextStop}
use Rattle.ira_view_page.specs.declared.text_stop.TextStop.TheVariants.{ShortHead, TooLong}
use Rattle.ira_view_explain.specs.declared.head_line.HeadLine.{HeadLine}
use Rattle.ira_view_explain.specs.HeadLine.{IsFirstStop, head_number}

-- the text shows it in this line
abbrev pub IsAtLine : ℕ → TextStop → Type 0
IsAtLine number stop = (from to : ℕ) × (beside : Said) × (stop ≡ stop_at number from to beside)

-- the text shows it in this line of its head, or has fewer whole lines
abbrev pub IsInHead : List ℕ → HeadLine → TextStop → Type 0
IsInHead text head stop =
    ((whole_lines text < head_number head) × (piece : Option PointedLine) × IsPiece text piece
    × (stop ≡ ShortHead (whole_lines text) piece))
    ⊎ ((head_number head ≤ whole_lines text) × (byte : ℕ) × (words : List ℕ)
    × (stop ≡ stop_at (head_number head) byte byte (due words)))

-- a text without a head shows it in the first line that isn't as it should be
abbrev pub IsHeadStop : List ℕ → TextStop → Type 0
IsHeadStop text stop = (line : HeadLine) × IsFirstStop text line × IsInHead text line stop

-- what stands after the text's head and so many records has this fault
pub record IsFaultAfter (text : List ℕ) (count : ℕ) (f : LogFault) : Type 0 where
  pub head : LogHead
  pub body : List ℕ
  pub begins : BeginsWithHead text head body
  pub events : List Event
  pub rest : List ℕ
  pub records : BeginsWithRecords head.version body events rest
  pub count_is : length events ≡ count
  pub fault : RestFault head.version count rest f

-- an end line of another number shows it after its word
abbrev pub IsCountStop : List ℕ → TextStop → Type 0
IsCountStop text stop =
    (count : ℕ) × IsFaultAfter text count fault.Count × (line : List ℕ) × IsLine text (count + 5) line
    × (words : List ℕ) × (stop ≡ stop_at (count + 5) 4 (length line) (note words))

-- a text that goes on shows it in the line after its end line
abbrev pub IsTrailingStop : List ℕ → TextStop → Type 0
IsTrailingStop text stop =
    (count : ℕ) × IsFaultAfter text count fault.Trailing × IsWholeLine text (count + 6) (after_end (count + 5)) stop

-- where a text with this fault shows it: in the line that the fault names, or is about
abbrev pub IsTextStop : List ℕ → LogFault → TextStop → Type 0
IsTextStop text fault.TooLong stop = stop ≡ TooLong
IsTextStop text fault.Head stop = IsHeadStop text stop
IsTextStop text (fault.Line number) stop = IsAtLine number stop
IsTextStop text (fault.Range number) stop = IsAtLine number stop
IsTextStop text fault.TooMany stop = IsWholeLine text (MAX_RECORDS + 5) (note (codes "record 100,001")) stop
IsTextStop text fault.Cut stop = (words : List ℕ) × IsCutStop text (note words) stop
IsTextStop text fault.Count stop = IsCountStop text stop
IsTextStop text fault.Trailing stop = IsTrailingStop text stop
IsTextStop text fault.OutOfMemory stop = ⊥

-- what is told of the text of a file with this fault: where it shows it
pub record IsTextTold {A : Type 0} (file : NamedText) (fault : LogFault) (told : List (Evidence A)) : Type 0 where
  pub stop : TextStop
  pub is_stop : IsTextStop file.text.now fault stop
  pub one : Evidence A
  pub told_is : told ≡ one ∷ []
  pub one_is : IsStopTold file stop one
