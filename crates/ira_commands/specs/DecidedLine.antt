-- The line on what is found for the cases of a question.
use Rattle.std.specs.Prelude.{◌≡◌, ◌==◌, ◌++◌, ⊤, ℕ, List, [], ◌∷◌, Some, codes, decimal, if◌then◌else◌, length, slice_get, take}
use Rattle.std.specs.List.{flat_map}
use Rattle.ira_audit.specs.Report.{numbered}
use Rattle.ira_elim.specs.declared.decided.Decided.{Decided}
use Rattle.ira_elim.specs.declared.decided.Decided.TheVariants.{Absent, Present}

-- each case is absent
abbrev pub AreAbsent : {A : Type 0} → List (Decided ℕ A) → Type 0
AreAbsent [] = ⊤
AreAbsent (Absent steps spent ∷ rest) = AreAbsent rest
AreAbsent (Present cut ∷ rest) = ⊥

-- the line where so many are
abbrev pub absent_line : ℕ → List ℕ
absent_line cases = if cases == 1 then codes "absent: no moment met its one case\n"
    else codes "absent: no moment met any of " ++ decimal cases ++ codes " cases\n"

-- how the line begins where one isn't: with its number, from 0, and the position of each place
abbrev pub present_text : ℕ → List ℕ → List ℕ
present_text number cut =
    codes "present: case " ++ decimal number ++ codes ", at" ++ flat_map (numbered (codes " ")) cut

-- the line says that each case is absent, and how many there are; or which is the first that is present, with its least
-- cut, and what it asks
pub data IsDecidedLine {A : Type 0} (cases : List (Decided ℕ A)) (line : List ℕ) : Type 0 where
  absent : AreAbsent cases → line ≡ absent_line (length cases) → IsDecidedLine cases line
  present : (number : ℕ) (cut asks : List ℕ) → AreAbsent (take number cases)
      → slice_get cases number ≡ Some (Present cut) → line ≡ present_text number cut ++ asks ++ codes "\n"
      → IsDecidedLine cases line
