-- What a text shows that is refused, and what is told of it.
use Rattle.std.specs.Prelude.{◌≡◌, ◌≤◌, ◌+◌, ⊤, ℕ, List, [], ◌∷◌, ◌++◌, MatchOption, Option, None, Some, String, codes}
use Rattle.std.specs.Prelude.{decimal, length, string_bytes}
use Rattle.ira_view_page.specs.Beside.{Said, due, note}
use Rattle.ira_view_page.specs.Lines.{IsLine, whole_lines}
use Rattle.ira_view_page.specs.Numbers.{number_of_text}
use Rattle.ira_view_page.specs.PointedLine.{IsPointed, IsPointedText}
use Rattle.ira_view_page.specs.Printable.{shown}
use Rattle.ira_view_page.specs.declared.evidence.Evidence.{Evidence}
use Rattle.ira_view_page.specs.declared.evidence.Evidence.TheVariants as evidence
use Rattle.ira_view_page.specs.declared.named_text.NamedText.{NamedText}
use Rattle.ira_view_page.specs.declared.pointed_line.PointedLine.{PointedLine}
use Rattle.ira_view_page.specs.declared.quoted_line.QuotedLine.{QuotedLine}
use Rattle.ira_view_page.specs.declared.text_stop.TextStop.{TextStop}
use Rattle.ira_view_page.specs.declared.text_stop.TextStop.TheVariants.{Line, ShortHead, TooLong}

-- in this line, with carets below its bytes from one up to another, and this beside them
abbrev pub stop_at : ℕ → ℕ → ℕ → Said → TextStop
stop_at number from to beside = Line (record { number = number; from = from; to = to; beside = beside })

-- the text shows it in all of this line, counted from 1
abbrev pub IsWholeLine : List ℕ → ℕ → Said → TextStop → Type 0
IsWholeLine text number beside stop =
    (line : List ℕ) × (1 ≤ number → IsLine text number line) × (stop ≡ stop_at number 0 (length line) beside)

-- the line feed is due of these bytes, if there are any
abbrev pub piece_of : ℕ → List ℕ → Option PointedLine
piece_of number [] = None
piece_of number (c ∷ line) =
    Some (record {
      number = number;
      from = length (c ∷ line);
      to = length (c ∷ line);
      beside = due (codes "a line feed");
    })

-- it is due of what follows the last whole line
abbrev pub IsPiece : List ℕ → Option PointedLine → Type 0
IsPiece text piece =
    (line : List ℕ) × IsLine text (whole_lines text + 1) line × (piece ≡ piece_of (whole_lines text + 1) line)

-- a text that ends too early shows it in that piece, or in the last whole line where there is none
abbrev pub IsCutStop : List ℕ → Said → TextStop → Type 0
IsCutStop text last stop =
    (piece : Option PointedLine) × IsPiece text piece
    × MatchOption piece (IsWholeLine text (whole_lines text) last stop) (λ line. stop ≡ Line line)

-- that an end line is in front
abbrev pub after_end : ℕ → Said
after_end end = note (codes "nothing stands after the end line (line " ++ decimal end ++ codes ")")

-- that a text in a file of this name has so many whole lines, and its head as many as this word says
abbrev pub short_head_text : List ℕ → ℕ → List ℕ → List ℕ
short_head_text file whole due =
    codes "  " ++ shown file ++ codes ": " ++ number_of_text whole (codes "whole line") ++ codes "; the head has "
    ++ due ++ codes "." ++ codes "\n"

-- the lines on it; of a text that is too long nothing is said here
abbrev pub TellsStop : NamedText → List ℕ → TextStop → List ℕ → Type 0
TellsStop file due TooLong text = ⊤
TellsStop file due (ShortHead whole None) text = text ≡ short_head_text file.name.now whole due
TellsStop file due (ShortHead whole (Some piece)) text =
    (line : List ℕ) × IsPointedText file piece line × (text ≡ short_head_text file.name.now whole due ++ line)
TellsStop file due (Line line) text = IsPointedText file line text

-- the line with the carets, as evidence
abbrev pub IsLineTold : {A : Type 0} → NamedText → PointedLine → Evidence A → Type 0
IsLineTold {A} file line told = (quoted : QuotedLine A) × (told ≡ evidence.Line quoted) × IsPointed file line quoted

-- it is the text of the file as a whole
abbrev pub IsWholeTold : {A : Type 0} → NamedText → Evidence A → Type 0
IsWholeTold {A} file told = (name : String A) × (told ≡ evidence.Text name) × (string_bytes name ≡ file.name.now)

-- what is told of it: such a line, or the text as a whole
abbrev pub IsStopTold : {A : Type 0} → NamedText → TextStop → Evidence A → Type 0
IsStopTold file (Line line) told = IsLineTold file line told
IsStopTold file (ShortHead whole (Some piece)) told = IsLineTold file piece told
IsStopTold file _ told = IsWholeTold file told
