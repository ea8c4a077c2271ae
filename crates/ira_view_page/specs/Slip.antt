-- What a file's format does to a line.
use Rattle.std.specs.Prelude.{◌≡◌, ℕ, List, ◌∷◌, ◌++◌, Option, Some, None, codes}
use Rattle.ira_view_page.specs.declared.slip.Slip.{Slip}
use Rattle.ira_view_page.specs.declared.slip.Slip.TheVariants.{CarriageReturn, ByteOrderMark}

-- the line ends in a carriage return
abbrev pub EndsInReturn : List ℕ → Type 0
EndsInReturn line = (front : List ℕ) × (line ≡ front ++ codes "\r")

-- the line begins with the byte order mark of UTF-8
abbrev pub BeginsWithMark : List ℕ → Type 0
BeginsWithMark line = (rest : List ℕ) × (line ≡ 239 ∷ 187 ∷ 191 ∷ rest)

-- a carriage return at the end, else a byte order mark in front, else nothing
abbrev pub IsFormatSlip : List ℕ → Option Slip → Type 0
IsFormatSlip line None = ¬ (EndsInReturn line) × ¬ (BeginsWithMark line)
IsFormatSlip line (Some CarriageReturn) = EndsInReturn line
IsFormatSlip line (Some ByteOrderMark) = ¬ (EndsInReturn line) × BeginsWithMark line
IsFormatSlip line (Some _) = ⊥
