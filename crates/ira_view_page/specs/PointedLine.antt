-- Lines of files as they are quoted, with carets or without.
use Rattle.std.specs.Prelude.{◌≡◌, ◌≤◌, ℕ, ◌+◌, ◌-◌, ◌^◌, List, [], ◌∷◌, ◌++◌, Some, codes, length, min, string_bytes}
use Rattle.ira_view_page.specs.Beside.{line_end}
use Rattle.ira_view_page.specs.Lines.{IsLine}
use Rattle.ira_view_page.specs.Page.{carets_text, spaces}
use Rattle.ira_view_page.specs.Places.{place_text}
use Rattle.ira_view_page.specs.Quoted.{quoted_column, quoted_text}
use Rattle.ira_view_page.specs.declared.named_text.NamedText.{NamedText}
use Rattle.ira_view_page.specs.declared.quoted_line.Carets.{Carets}
use Rattle.ira_view_page.specs.declared.quoted_line.QuotedLine.{QuotedLine}
use Rattle.ira_view_page.specs.declared.pointed_line.PointedLine.{PointedLine}

-- it is this line of the file, counted from 1, as pages quote it
pub record IsQuoted {A : Type 0} (file : NamedText) (number : ℕ) (line : QuotedLine A) : Type 0 where
  pub file_is : string_bytes line.file ≡ file.name.now
  pub number_is : line.number ≡ number
  pub bytes : List ℕ
  pub bytes_are : 1 ≤ number → IsLine file.text.now number bytes
  pub text_is : string_bytes line.text ≡ quoted_text bytes

-- with what stands beside carets that begin at the byte; the last usize stands for all above too
pub record IsPointed {A : Type 0} (file : NamedText) (pointed : PointedLine) (line : QuotedLine A) : Type 0 where
  pub quoted : IsQuoted file pointed.number line
  pub carets : Carets A
  pub carets_are : line.carets ≡ Some carets
  pub byte : carets.byte ≡ min (pointed.from + 1) (2 ^ 64 - 1)
  pub remark : carets.remark ≡ pointed.beside.remark
  pub words_are : string_bytes carets.words ≡ pointed.beside.text

-- a line after the place where it stands: nothing of an empty one
abbrev pub after_place : List ℕ → List ℕ
after_place [] = []
after_place (c ∷ line) = codes " " ++ quoted_text (c ∷ line)

-- what a line of a file begins with that the answer speaks of
abbrev pub named_place : List ℕ → ℕ → List ℕ
named_place file number = codes "> " ++ place_text file number ++ codes ":"

-- the carets below these bytes of a line that is quoted
abbrev pub below_text : PointedLine → List ℕ → List ℕ
below_text pointed bytes =
    spaces (quoted_column bytes pointed.from)
    ++ carets_text (quoted_column bytes pointed.to - quoted_column bytes pointed.from)

-- the line of the file after its place, the carets below it, and what stands beside them
pub record IsPointedText (file : NamedText) (pointed : PointedLine) (text : List ℕ) : Type 0 where
  pub bytes : List ℕ
  pub bytes_are : 1 ≤ pointed.number → IsLine file.text.now pointed.number bytes
  pub is : text
      ≡ named_place file.name.now pointed.number ++ after_place bytes ++ codes "\n"
      ++ spaces (length (named_place file.name.now pointed.number)) ++ codes " "
      ++ below_text pointed bytes ++ codes " " ++ pointed.beside.text ++ line_end pointed.beside.remark
