-- What comes of asking for the question of a sentence.
use Rattle.std.specs.Prelude.{◌≡◌, ℕ, ◌<◌, ◌≤◌, ◌⊎◌, List, length, Result, Ok, Err}
use Rattle.ira_pred.specs.Formula.{Formula}
use Rattle.ira_pred.specs.Limits.{MAX_CASES}
use Rattle.ira_pred.specs.Question.{QuestionCases}
use Rattle.ira_pred.specs.QuestionText.{IsShort, question_text}
use Rattle.ira_ask.specs.declared.picks.Picks.{Picks}
use Rattle.ira_ask.specs.declared.sentence_fault.SentenceFault.{SentenceFault}
use Rattle.ira_ask.specs.declared.sentence_fault.SentenceFault.TheVariants.{NoNode, NoPlace, TooLong, TooDeep, ManyCases}
use Rattle.ira_ask.specs.declared.sentence_fault.SentenceFault.TheVariants.{LongQuestion, OutOfMemory}
use Rattle.ira_ask.specs.Asked.{asked, asked_at, together}
use Rattle.ira_ask.specs.Choices.{PicksOf, choices}
use Rattle.ira_ask.specs.Sentence.{Parts, Sentence, of_node}
use Rattle.ira_ask.specs.SentenceText.{IsSentenceText, IsTextOfParts, MAX_SENTENCE, MayBeClause, SpeaksOfNode, StopsAt}

-- what is asked of each node, with what is asked of all, is a clause
pub record HasClauses (s : Parts) : Type 0 where
  pub any : MayBeClause (together s.any s.all)
  pub other : MayBeClause (together s.other s.all)
  pub each_other : MayBeClause (together s.each_other s.all)

-- this is the question of the text of parts for a ring of n nodes
pub record IsAskedOfParts (n : ℕ) (text : List ℕ) (q : QuestionCases) : Type 0 where
  pub sentence : Parts
  pub picks : Picks
  pub short_text : length text ≤ MAX_SENTENCE
  pub text_is : IsTextOfParts text sentence
  pub clauses : HasClauses sentence
  pub picks_are : PicksOf sentence.any sentence.other picks
  pub few : length (choices n picks) ≤ MAX_CASES
  pub is : q ≡ asked n sentence picks
  pub short : IsShort q

-- this is the question of the text of a sentence for a ring of n nodes
pub data IsAsked (n : ℕ) (text : List ℕ) (q : QuestionCases) : Type 0 where
  asks_parts : IsAskedOfParts n text q → IsAsked n text q
  asks_node : (p : ℕ) (f : Formula) → length text ≤ MAX_SENTENCE → IsSentenceText text (of_node p f) → p < n
      → q ≡ asked_at n p f → IsAsked n text q

-- why there is none
pub data IsSentenceFault (n : ℕ) (text : List ℕ) (f : SentenceFault) : Type 0 where
  -- the text is too long
  too_long : MAX_SENTENCE < length text → f ≡ TooLong → IsSentenceFault n text f
  -- it is no sentence's
  stops : length text ≤ MAX_SENTENCE → ¬ (SpeaksOfNode text) → StopsAt text f → IsSentenceFault n text f
  -- it begins as one on a node, and is none
  no_node : length text ≤ MAX_SENTENCE → SpeaksOfNode text → ((s : Sentence) → ¬ (IsSentenceText text s)) → f ≡ NoNode
      → IsSentenceFault n text f
  -- the ring has no such node
  no_place : (p : ℕ) (g : Formula) → length text ≤ MAX_SENTENCE → IsSentenceText text (of_node p g) → n ≤ p
      → f ≡ NoPlace → IsSentenceFault n text f
  -- the clause of a node and that of all are nested too deep together
  too_deep : (s : Parts) → length text ≤ MAX_SENTENCE → IsTextOfParts text s → ¬ (HasClauses s) → f ≡ TooDeep
      → IsSentenceFault n text f
  -- there are more ways to pick nodes than a question has cases
  many_cases :
      (s : Parts) (picks : Picks) → length text ≤ MAX_SENTENCE → IsTextOfParts text s → HasClauses s
      → PicksOf s.any s.other picks → MAX_CASES < length (choices n picks) → f ≡ ManyCases → IsSentenceFault n text f
  -- the question's text is too long
  long_question :
      (s : Parts) (picks : Picks) → length text ≤ MAX_SENTENCE → IsTextOfParts text s → HasClauses s
      → PicksOf s.any s.other picks → length (choices n picks) ≤ MAX_CASES → ¬ (IsShort (asked n s picks))
      → f ≡ LongQuestion
      → IsSentenceFault n text f

-- unless memory ran out, the text of that question, or that fault
abbrev pub Answers : {T : Type 0} → (T → List ℕ) → ℕ → List ℕ → Result T SentenceFault → Type 0
Answers text_of n sentence (Ok text) = (q : QuestionCases) × IsAsked n sentence q × (text_of text ≡ question_text q)
Answers text_of n sentence (Err f) = (f ≡ OutOfMemory) ⊎ IsSentenceFault n sentence f
