-- What comes of a text: its question, or why there is none.
use Rattle.std.proofs.Common.{◌≡◌, ◌≤◌, ◌⊎◌, ℕ, List, length, ap, subst, inl, inr}
use Rattle.std.specs.Prelude.{Result, Ok, Err}
use Rattle.ira_pred.specs.QuestionText.{IsShort}
use Rattle.ira_ask.specs.declared.picks.Picks.{Picks}
use Rattle.ira_ask.specs.declared.places.Places.{Places}
use Rattle.ira_ask.specs.declared.sentence.Sentence.{Sentence as Spelled}
use Rattle.ira_ask.specs.declared.sentence_fault.SentenceFault.{SentenceFault}
use Rattle.ira_ask.specs.declared.sentence_fault.SentenceFault.TheVariants.{TooDeep, OutOfMemory}
use Rattle.ira_ask.specs.declared.asked_clauses.AskedClauses.{AskedClauses}
use Rattle.ira_ask.specs.Asked.{together}
use Rattle.ira_ask.specs.AskedTexts.{AreAsked, Writes, asked_of}
use Rattle.ira_ask.specs.Choices.{PicksOf, choices}
use Rattle.ira_ask.specs.Reading.{AreSpelled}
use Rattle.ira_ask.specs.Sentence.{Parts}
use Rattle.ira_ask.specs.SentenceAnswer.{Answers, HasClauses, IsSentenceFault, asks_parts, long_question, stops, too_deep}
use Rattle.ira_ask.specs.SentenceText.{IsTextOfParts, SpeaksOfNode, StopsAt}
use Rattle.ira_ask.proofs.PartsRead.{clause-of}

pub clauses_of : {A : Type 0} (clauses : AskedClauses A) (s : Parts) → AreAsked clauses s → HasClauses s
clauses_of clauses s h = record {
  any = clause-of _ (together s.any s.all) h.any;
  other = clause-of _ (together s.other s.all) h.other;
  each_other = clause-of _ (together s.each_other s.all) h.each_other;
}

pub stop_fault : (n : ℕ) (text : List ℕ) (e : SentenceFault) → length text ≤ 65536
    → ¬ (SpeaksOfNode text) → (e ≡ OutOfMemory) ⊎ StopsAt text e → (e ≡ OutOfMemory) ⊎ IsSentenceFault n text e
stop_fault n text e short none (inl h) = inl h
stop_fault n text e short none (inr h) = inr (stops short none h)

pub deep_fault : (n : ℕ) (text : List ℕ) (s : Parts) (spelled : Spelled) (e : SentenceFault) → length text ≤ 65536
    → IsTextOfParts text s → AreSpelled spelled s
    → (e ≡ OutOfMemory) ⊎ ((e ≡ TooDeep) × ((t : Parts) → AreSpelled spelled t → ¬ (HasClauses t)))
    → (e ≡ OutOfMemory) ⊎ IsSentenceFault n text e
deep_fault n text s spelled e short is k (inl h) = inl h
deep_fault n text s spelled e short is k (inr h) = inr (too_deep s short is (h.1 s k) h.0)

pub answered : {X : Type 0} (text_of : X → List ℕ) (n : ℕ) (text : List ℕ) (s : Parts) (picks : Picks)
    (list : List Places)
    (r : Result X SentenceFault) → length text ≤ 65536 → IsTextOfParts text s → HasClauses s
    → PicksOf s.any s.other picks → list ≡ choices n picks → length list ≤ 32385
    → Writes text_of (asked_of n s list) r → Answers text_of n text r
answered text_of n text s picks list (Ok x) short is clauses of e few h = (
  asked_of n s list,
  asks_parts (record {
    sentence = s;
    picks = picks;
    short_text = short;
    text_is = is;
    clauses = clauses;
    picks_are = of;
    few = subst (λ l. length l ≤ 32385) e few;
    is = ap (asked_of n s) e;
    short = h.1;
  }),
  h.0,
)
answered text_of n text s picks list (Err f) short is clauses of e few (inl h) = inl h
answered text_of n text s picks list (Err f) short is clauses of e few (inr h) =
    inr (long_question s picks short is clauses of (subst (λ l. length l ≤ 32385) e few)
    (subst (λ l. ¬ (IsShort (asked_of n s l))) e h.1) h.0)
