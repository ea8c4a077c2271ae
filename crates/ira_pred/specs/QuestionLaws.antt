-- What holds of questions and their texts, whoever reads or writes them.
use Rattle.std.specs.Prelude.{◌≡◌, ◌<◌, ◌↔◌, ◌⊎◌, ℕ, List}
use Rattle.ira_pred.specs.Limits.{MAX_DEPTH}
use Rattle.ira_pred.specs.declared.ask_fault.AskFault.{AskFault}
use Rattle.ira_pred.specs.declared.ask_fault.AskFault.TheVariants.{OutOfMemory}
use Rattle.ira_pred.specs.Formula.{Formula, depth}
use Rattle.ira_pred.specs.Question.{QuestionCases, IsQuestion}
use Rattle.ira_pred.specs.QuestionText.{IsClauseText, IsQuestionText, question_text, IsShort}
use Rattle.ira_pred.specs.QuestionTextFault.{IsTooDeep, QuestionTextFault}

-- each question whose text isn't too long has one text, the one written out
abbrev pub EachQuestionHasOneText : Type 0
EachQuestionHasOneText = (text : List ℕ) (q : QuestionCases)
    → IsQuestionText text q ↔ (IsQuestion q × IsShort q × (text ≡ question_text q))

-- no text belongs to two questions
abbrev pub NoTextIsTwoQuestions : Type 0
NoTextIsTwoQuestions = (text : List ℕ) (a b : QuestionCases) → IsQuestionText text a → IsQuestionText text b → a ≡ b

-- the text of a clause goes too deep exactly where the clause does
abbrev pub TextsAreAsDeepAsClauses : Type 0
TextsAreAsDeepAsClauses = (text : List ℕ) (f : Formula) → IsClauseText text f → IsTooDeep text ↔ (MAX_DEPTH < depth f)

-- the text of a question has no fault
abbrev pub NoQuestionTextHasFaults : Type 0
NoQuestionTextHasFaults = (text : List ℕ) (q : QuestionCases) (f : AskFault) → IsQuestionText text q
    → ¬ (QuestionTextFault text f)

-- no text has two faults
abbrev pub NoTextHasTwoFaults : Type 0
NoTextHasTwoFaults = (text : List ℕ) (f g : AskFault) → QuestionTextFault text f → QuestionTextFault text g → f ≡ g

-- each text is a question's, or has a fault
abbrev pub EachTextHasAnAnswer : Type 0
EachTextHasAnAnswer = (text : List ℕ) → ((q : QuestionCases) × IsQuestionText text q)
    ⊎ ((f : AskFault) × QuestionTextFault text f)

-- to be out of memory is no fault of a text
abbrev pub NoTextIsOutOfMemory : Type 0
NoTextIsOutOfMemory = (text : List ℕ) → ¬ (QuestionTextFault text OutOfMemory)
