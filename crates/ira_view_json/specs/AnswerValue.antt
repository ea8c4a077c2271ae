-- What an answer, and what is found for cases, are as JSON.
use Rattle.std.specs.Prelude.{ℕ, List, [], ◌∷◌, Bool, true, false, codes, map}
use Rattle.std.specs.List.{enumerate_from, list_any}
use Rattle.json.specs.Json.{Json, Members, member, no_members, object, string}
use Rattle.ira_elim.specs.declared.decided.Decided.{Decided}
use Rattle.ira_elim.specs.declared.decided.Decided.TheVariants.{Absent, Present}
use Rattle.ira_elim.specs.declared.found.Found.{Found}
use Rattle.ira_audit.specs.DecidedCases.{counted}
use Rattle.ira_audit.specs.Report.{reason_words}
use Rattle.ira_audit.specs.declared.answer.Answer.{Answer}
use Rattle.ira_audit.specs.declared.answer.Answer.TheVariants.{Yes, No}
use Rattle.ira_audit.specs.declared.findings.Findings.{Findings}
use Rattle.ira_audit.specs.declared.findings.Findings.TheVariants.{Refused, Cases}
use Rattle.ira_view_json.specs.Members.{natural, naturals}

-- the line of an answer, without its line feed
abbrev pub answer_words : Answer → List ℕ
answer_words Yes = codes "yes"
answer_words (No reason) = reason_words reason

-- an answer in words, and the status that goes with it; the version is that of what members mean
abbrev pub worded_members : List ℕ → ℕ → Members
worded_members words status =
    member (codes "answer") (string words)
    (member (codes "status") (natural status)
    (member (codes "type") (string (codes "answer"))
    (member (codes "version") (natural 1) no_members)))

-- an answer, and the status that goes with it
abbrev pub answer_members : ℕ → Answer → Members
answer_members status answer = worded_members (answer_words answer) status

abbrev pub answer_value : ℕ → Answer → Json
answer_value status answer = object (answer_members status answer)

-- what is found for all cases in a word
abbrev pub decision_word : Bool → List ℕ
decision_word true = codes "present"
decision_word false = codes "absent"

-- that a question about a ring of so many nodes was decided, in a word
abbrev pub decision_value : List ℕ → ℕ → ℕ → Json
decision_value word nodes status =
    object (member (codes "answer") (string word)
    (member (codes "nodes") (natural nodes)
    (member (codes "status") (natural status)
    (member (codes "type") (string (codes "answer"))
    (member (codes "version") (natural 1) no_members)))))

-- that a case is absent: how many steps its section has, and which node it spends
abbrev pub absent_members : ℕ → ℕ → ℕ → Members
absent_members case steps spent =
    member (codes "case") (natural case)
    (member (codes "found") (string (codes "absent"))
    (member (codes "spent") (natural spent)
    (member (codes "steps") (natural steps)
    (member (codes "type") (string (codes "case")) no_members))))

-- that a case is present: the least cut that meets it
abbrev pub present_members : ℕ → List ℕ → Members
present_members case cut =
    member (codes "case") (natural case)
    (member (codes "cut") (naturals cut)
    (member (codes "found") (string (codes "present"))
    (member (codes "type") (string (codes "case")) no_members)))

-- what is found of the case of this number, with its steps counted
abbrev pub decided_members : {A : Type 0} → ℕ → Decided ℕ A → Members
decided_members case (Absent steps spent) = absent_members case steps spent
decided_members case (Present cut) = present_members case cut

abbrev pub found_members : {A : Type 0} → ℕ → Found A → Members
found_members case found = decided_members case (counted found)

-- the same of a case with its number
abbrev pub case_value : {A : Type 0} → ℕ × Decided ℕ A → Json
case_value case = object (decided_members case.0 case.1)

-- whether it is present
abbrev pub is_met : {A : Type 0} → Decided ℕ A → Bool
is_met (Absent steps spent) = false
is_met (Present cut) = true

-- what is found for all cases of a question about a ring of so many nodes, and then for each, in order
abbrev pub cases_values : {A : Type 0} → ℕ → ℕ → List (Decided ℕ A) → List Json
cases_values nodes status cases =
    decision_value (decision_word (list_any is_met cases)) nodes status ∷ map case_value (enumerate_from 0 cases)

-- findings, and the status that goes with them: the answer by a reason, or what is found for the cases
abbrev pub findings_values : {A : Type 0} → ℕ → Findings A → List Json
findings_values status (Refused reason) = answer_value status (No reason) ∷ []
findings_values status (Cases nodes found) = cases_values nodes status (map counted found.items)
