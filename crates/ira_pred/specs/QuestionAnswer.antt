-- What the reader of a question's text answers.
use Rattle.std.specs.Prelude.{◌≡◌, ◌↔◌, ℕ, ◌<◌, ◌≤◌, List, length, Result, Ok, Err}
use Rattle.ira_pred.specs.Limits.{MAX_TEXT}
use Rattle.ira_event.specs.Result.{UnlessErr}
use Rattle.ira_pred.specs.declared.ask_fault.AskFault.{AskFault}
use Rattle.ira_pred.specs.declared.ask_fault.AskFault.TheVariants.{OutOfMemory, TooLong, Head}
use Rattle.ira_pred.specs.Question.{QuestionCases}
use Rattle.ira_pred.specs.QuestionText.{IsQuestionText}
use Rattle.ira_pred.specs.QuestionTextFault.{BeginsWithQuestionHead, QuestionTextFault}

-- unless out of memory, a question is answered exactly where the text is its text
abbrev pub AnswersQuestions : Result QuestionCases AskFault → List ℕ → Type 0
AnswersQuestions result text = (q : QuestionCases)
    → UnlessErr result OutOfMemory ((result ≡ Ok q) ↔ IsQuestionText text q)

-- unless out of memory, a fault is answered exactly where it is the text's
abbrev pub AnswersFaults : Result QuestionCases AskFault → List ℕ → Type 0
AnswersFaults result text = (f : AskFault) → UnlessErr result OutOfMemory ((result ≡ Err f) ↔ QuestionTextFault text f)

-- whatever memory does, a text that is too long, or else has no head, is answered so
pub record AnswersEarlyFaults (result : Result QuestionCases AskFault) (text : List ℕ) : Type 0 where
  pub too_long : MAX_TEXT < length text → result ≡ Err TooLong
  pub no_head : length text ≤ MAX_TEXT → ((nodes : ℕ) (rest : List ℕ) → ¬ (BeginsWithQuestionHead text nodes rest))
      → result ≡ Err Head
