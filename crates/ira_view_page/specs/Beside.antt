-- What stands beside carets below a line.
use Rattle.std.specs.Prelude.{ℕ, zero, suc, ◌+◌, ◌-◌, ◌^◌, List, [], ◌++◌, codes, decimal, min}
use Rattle.ira_view_page.specs.Numbers.{number_of_text}
use Rattle.ira_view_page.specs.declared.beside.Among.{Among}
use Rattle.ira_view_page.specs.declared.beside.Among.TheVariants.{Nothing, Number, Records}
use Rattle.ira_view_page.specs.declared.remark.Remark.{Remark}
use Rattle.ira_view_page.specs.declared.remark.Remark.TheVariants.{Due, Note}

-- words, which say what is due, or something else
pub record Said : Type 0 where
  pub remark : Remark
  pub text : List ℕ

-- that this is due
abbrev pub due : List ℕ → Said
due text = record { remark = Due; text = text }

-- these words
abbrev pub note : List ℕ → Said
note text = record { remark = Note; text = text }

-- on which lines of a log so many records are; the last usize stands for all above too
abbrev pub lines_text : ℕ → List ℕ
lines_text zero = []
lines_text (suc count) = codes " (lines 5 to " ++ decimal (min (suc count + 4) (2 ^ 64 - 1)) ++ codes ")"

-- what stands in the midst of words
abbrev pub among_text : Among → List ℕ
among_text Nothing = []
among_text (Number number) = decimal number
among_text (Records count) = number_of_text count (codes "record") ++ lines_text count

-- what follows the words on their line
abbrev pub line_end : Remark → List ℕ
line_end Due = codes " is due here" ++ codes "\n"
line_end Note = codes "\n"
