-- What is found for a question as JSON, with what it rests on.
use Rattle.std.specs.Prelude.{ℕ, List, [], ◌∷◌, Option, Some, None, codes, map, nat_eq, string_bytes}
use Rattle.std.specs.List.{enumerate_from, find, list_any}
use Rattle.json.specs.Json.{Json, Members, array, no_members, null, object}
use Rattle.json.specs.Value.{items_of}
use Rattle.ira_elim.specs.declared.found.Found.{Found}
use Rattle.ira_audit.specs.Findings.{is_present}
use Rattle.ira_audit.specs.declared.answer.Answer.TheVariants.{No}
use Rattle.ira_audit.specs.declared.findings.Findings.{Findings}
use Rattle.ira_audit.specs.declared.findings.Findings.TheVariants.{Refused, Cases}
use Rattle.ira_view_page.specs.declared.asked_case.AskedCase.{AskedCase}
use Rattle.ira_view_page.specs.declared.asked_case.AskedNode.{AskedNode}
use Rattle.ira_view_page.specs.declared.explanation.Explanation.{Explanation}
use Rattle.ira_view_json.specs.AnswerValue.{decision_word, found_members, worded_members}
use Rattle.ira_view_json.specs.ExplainedValue.{explained_value, with_explanation}
use Rattle.ira_view_json.specs.Members.{put, with_number, with_words}

-- what a case asks of a node: the clause, and its line in the question
abbrev pub ask_value : {A : Type 0} → AskedNode A → Json
ask_value ask =
    object (with_number (codes "line") ask.line
    (with_words (codes "clause") (string_bytes ask.clause)
    (with_number (codes "node") ask.node no_members)))

-- what a case asks, where it is one that is explained
abbrev pub with_asks : {A : Type 0} → Option (AskedCase A) → Members → Members
with_asks None members = members
with_asks (Some asked) members = put (codes "asks") (array (items_of (map ask_value asked.asks.items))) members

-- what is found for a case with its number, and what it asks, where it is among those that are explained
abbrev pub explained_case : {A B : Type 0} → List (AskedCase A) → ℕ × Found B → Json
explained_case explained case =
    object (with_asks (find (λ asked. nat_eq asked.number case.0) explained) (found_members case.0 case.1))

-- what is found for all cases, and what that rests on
abbrev pub explained_decision : {A B : Type 0} → ℕ → List (Found B) → Explanation A → Json
explained_decision status found explanation =
    object (with_explanation explanation
    (put (codes "reason") null (worded_members (decision_word (list_any is_present found)) status)))

-- findings with what they rest on, and the status that goes with them: the answer by a reason, or what is found for the
-- cases
abbrev pub explained_findings : {A B : Type 0} → ℕ → Findings B → Explanation A → List Json
explained_findings status (Refused reason) explanation = explained_value status (No reason) explanation None ∷ []
explained_findings status (Cases nodes found) explanation =
    explained_decision status found.items explanation
    ∷ map (explained_case explanation.cases.items) (enumerate_from 0 found.items)
