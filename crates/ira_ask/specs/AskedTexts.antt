-- Helpers, no definitions: what is asked of nodes, as texts, as the writer's contracts say.
use Rattle.std.specs.Prelude.{◌≡◌, ℕ, ◌⊎◌, List, map, Result, Ok, Err}
use Rattle.std.specs.Option.{option_map}
use Rattle.ira_pred.specs.Question.{QuestionCases}
use Rattle.ira_pred.specs.QuestionText.{IsShort, question_text}
use Rattle.ira_ask.specs.declared.asked_clauses.AskedClauses.{AskedClauses}
use Rattle.ira_ask.specs.declared.places.Places.{Places}
use Rattle.ira_ask.specs.declared.sentence.Sentence.{Sentence as Spelled}
use Rattle.ira_ask.specs.declared.sentence_fault.SentenceFault.{SentenceFault}
use Rattle.ira_ask.specs.declared.sentence_fault.SentenceFault.TheVariants.{LongQuestion, OutOfMemory, TooDeep}
use Rattle.ira_ask.specs.Asked.{case_of, together}
use Rattle.ira_ask.specs.Reading.{AreSpelled, Spells}
use Rattle.ira_ask.specs.Sentence.{Parts}
use Rattle.ira_ask.specs.SentenceAnswer.{HasClauses}

-- these are the texts of what is asked of each node
pub record AreAsked {A : Type 0} (clauses : AskedClauses A) (s : Parts) : Type 0 where
  pub any : Spells (option_map (λ t. t.items) clauses.any) (together s.any s.all)
  pub other : Spells (option_map (λ t. t.items) clauses.other) (together s.other s.all)
  pub each_other : Spells (option_map (λ t. t.items) clauses.each_other) (together s.each_other s.all)

-- they were made of the clauses, or why not
abbrev pub AsksClauses : {A : Type 0} → Spelled → Result (AskedClauses A) SentenceFault → Type 0
AsksClauses spelled (Ok clauses) = (s : Parts) → AreSpelled spelled s → AreAsked clauses s
AsksClauses spelled (Err e) =
    (e ≡ OutOfMemory) ⊎ ((e ≡ TooDeep) × ((s : Parts) → AreSpelled spelled s → ¬ (HasClauses s)))

-- the question with a case for each of the choices
abbrev pub asked_of : ℕ → Parts → List Places → QuestionCases
asked_of n s choices = record { nodes = n; cases = map (case_of n s) choices }

-- its text was made, or why not
abbrev pub Writes : {X : Type 0} → (X → List ℕ) → QuestionCases → Result X SentenceFault → Type 0
Writes text_of q (Ok text) = (text_of text ≡ question_text q) × IsShort q
Writes text_of q (Err e) = (e ≡ OutOfMemory) ⊎ ((e ≡ LongQuestion) × ¬ (IsShort q))
