-- The lines that are written of findings.
use Rattle.std.specs.Prelude.{ℕ, List, ◌++◌, codes}
use Rattle.std.specs.List.{enumerate_from, flat_map}
use Rattle.ira_elim.specs.declared.decided.Decided.{Decided}
use Rattle.ira_elim.specs.declared.decided.Decided.TheVariants.{Absent, Present}
use Rattle.ira_elim.specs.declared.found.Found.{Found}
use Rattle.ira_audit.specs.declared.answer.Answer.TheVariants.{No}
use Rattle.ira_audit.specs.declared.findings.Findings.{Findings}
use Rattle.ira_audit.specs.declared.findings.Findings.TheVariants.{Refused, Cases}
use Rattle.ira_audit.specs.DecidedCases.{counted}
use Rattle.ira_audit.specs.Report.{numbered, report_line}

-- that no cut meets a case, in words: how many steps its section has, and which node it spends
abbrev pub absent_words : ℕ → ℕ → List ℕ
absent_words steps spent =
    numbered (codes ": absent, ") steps ++ numbered (codes " steps, node ") spent ++ codes " spent"

-- what is found of a case, with the steps counted, in words: that it is absent, or the position of each place
abbrev pub decided_words : {A : Type 0} → Decided ℕ A → List ℕ
decided_words (Absent steps spent) = absent_words steps spent
decided_words (Present cut) = codes ": present at" ++ flat_map (numbered (codes " ")) cut

abbrev pub found_words : {A : Type 0} → Found A → List ℕ
found_words found = decided_words (counted found)

-- the line of a case: its number, from 0, and what is found for it
abbrev pub decided_line : {A : Type 0} → ℕ × Decided ℕ A → List ℕ
decided_line case = numbered (codes "case ") case.0 ++ decided_words case.1 ++ codes "\n"

abbrev pub case_line : {A : Type 0} → ℕ × Found A → List ℕ
case_line case = decided_line (case.0, counted case.1)

-- the line of a refusal's reason, or one of each case
abbrev pub findings_text : {A : Type 0} → Findings A → List ℕ
findings_text (Refused r) = report_line (No r)
findings_text (Cases nodes found) = flat_map case_line (enumerate_from 0 found.items)
