-- What holds of sentences, whoever reads them.
use Rattle.std.specs.Prelude.{◌≡◌, ◌↔◌, ℕ, List, Some, Contains, slice_get, slice_index}
use Rattle.ira_event.specs.Log.{Log}
use Rattle.ira_event.specs.RingSize.{IsRingSize}
use Rattle.ira_pred.specs.Case.{Conjunct}
use Rattle.ira_pred.specs.Formula.{Formula}
use Rattle.ira_pred.specs.Question.{QuestionCases}
use Rattle.ira_pred.specs.QuestionText.{IsQuestionText, question_text}
use Rattle.ira_cand.specs.HoldsAt.{HoldsAt}
use Rattle.ira_cand.specs.Meets.{Meets}
use Rattle.ira_ask.specs.Sentence.{Says, Sentence}
use Rattle.ira_ask.specs.SentenceAnswer.{IsAsked}
use Rattle.ira_ask.specs.SentenceText.{IsSentenceText}

-- the formula holds of the state of the node at the place, at a cut of the logs
abbrev pub HoldsAtCut : List Log → List ℕ → Formula → ℕ → Type 0
HoldsAtCut logs cut f p = (log : Log) × (slice_get logs p ≡ Some log) × HoldsAt log f (slice_index cut p)

-- a cut meets a case of a sentence's question exactly where the sentence holds of it
abbrev pub QuestionsMeanTheirSentences : Type 0
QuestionsMeanTheirSentences =
    (n : ℕ) (text : List ℕ) (s : Sentence) (q : QuestionCases) (logs : List Log) (cut : List ℕ) → IsSentenceText text s
    → IsAsked n text q
    → ((case : List Conjunct) × Contains q.cases case × Meets logs case cut) ↔ Says n (HoldsAtCut logs cut) s

-- its text is that of the question
abbrev pub QuestionsHaveTexts : Type 0
QuestionsHaveTexts = (n : ℕ) (text : List ℕ) (q : QuestionCases) → IsRingSize n → IsAsked n text q
    → IsQuestionText (question_text q) q

-- no text is that of two sentences
abbrev pub NoTextIsTwoSentences : Type 0
NoTextIsTwoSentences = (text : List ℕ) (a b : Sentence) → IsSentenceText text a → IsSentenceText text b → a ≡ b
