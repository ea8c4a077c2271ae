-- The lines of a question's text that ask its cases.
use Rattle.std.specs.Prelude.{◌≡◌, ◌⊎◌, ℕ, ◌+◌, List, [], ◌∷◌, ◌++◌, codes, if◌then◌else◌, length, min, nat_le}
use Rattle.std.specs.Prelude.{Some, slice_get, take}
use Rattle.std.specs.List.{flat_map}
use Rattle.ira_pred.specs.Case.{Conjunct}
use Rattle.ira_pred.specs.QuestionText.{IsPlaced}
use Rattle.ira_pred.specs.QuestionTextFault.{lines_of}
use Rattle.ira_view_page.specs.declared.named_text.NamedText.{NamedText}
use Rattle.ira_view_page.specs.declared.page.Emphasis.{Emphasis}
use Rattle.ira_view_page.specs.Lines.{IsLine}
use Rattle.ira_view_page.specs.Page.{mark_text}
use Rattle.ira_view_page.specs.Places.{place_text}
use Rattle.ira_view_page.specs.Quoted.{quoted_text}

-- the line of a clause of the case of a number, both counted from 0: two lines of the head, the cases before, and the
-- line that begins the case stand before it, and so do the clauses before
abbrev pub clause_line : List (List Conjunct) → ℕ → ℕ → ℕ
clause_line cases number clause = 2 + lines_of (take number cases) + 1 + clause + 1

-- the line is one with a clause after a place, and this is the clause; or all of a line that is none
abbrev pub IsClauseOf : List ℕ → List ℕ → Type 0
IsClauseOf line clause =
    ((place : ℕ) × IsPlaced line place clause)
    ⊎ (((place : ℕ) (text : List ℕ) → ¬ (IsPlaced line place text)) × (clause ≡ line))

-- so the file spells a clause of a case
pub record IsClauseAt (question : NamedText) (cases : List (List Conjunct)) (number n : ℕ) (clause : List ℕ)
    : Type 0 where
  pub line : List ℕ
  pub is_line : ∥ IsLine question.text.now (clause_line cases number n) line ∥₁
  pub is_clause : IsClauseOf line clause

-- so many lines of the file from the first clause of a case on
pub record AreClauseLines (question : NamedText) (cases : List (List Conjunct)) (number count : ℕ)
    (lines : List (List ℕ)) : Type 0 where
  pub count_is : length lines ≡ count
  pub each :
      (n : ℕ) (line : List ℕ) → slice_get lines n ≡ Some line
      → ∥ IsLine question.text.now (clause_line cases number n) line ∥₁

-- lines as pages quote them, with commas between them
abbrev pub listed_text : List (List ℕ) → List ℕ
listed_text [] = []
listed_text (line ∷ lines) = quoted_text line ++ flat_map (λ l. codes ", " ++ quoted_text l) lines

-- what follows at most eight clauses of so many
abbrev pub more_clauses_text : ℕ → List ℕ
more_clauses_text count = if nat_le count 8 then [] else codes ", .."

-- the clauses of a case with their places, as the file spells them, at most eight
abbrev pub AreClausesTold : NamedText → List (List Conjunct) → ℕ → List Conjunct → List ℕ → Type 0
AreClausesTold question cases number case text =
    (lines : List (List ℕ)) × AreClauseLines question cases number (min (length case) 8) lines
    × (text ≡ listed_text lines ++ more_clauses_text (length case))

-- a line of a file on a page, counted from 1
abbrev pub line_text : Emphasis → List ℕ → ℕ → List ℕ → List ℕ
line_text mark file number bytes =
    mark_text mark ++ place_text file number ++ codes ": " ++ quoted_text bytes ++ codes "\n"
