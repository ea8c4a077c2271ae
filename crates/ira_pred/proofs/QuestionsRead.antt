-- A reader that answers by the grammar answers exactly.
use Rattle.std.proofs.Common.{◌≡◌, ◌≤◌, ℕ, List, ◌++◌, ◌⊎◌, Result, Ok, Err, length, refl, sym, ap, subst, ◌∙◌, inl}
use Rattle.std.proofs.Common.{inr, append_assoc}
use Rattle.std.specs.Prelude.{All, codes}
use Rattle.ira_pred.specs.declared.ask_fault.AskFault.{AskFault}
use Rattle.ira_pred.specs.declared.ask_fault.AskFault.TheVariants.{OutOfMemory, Head}
use Rattle.ira_pred.specs.Case.{Conjunct, IsCase}
use Rattle.ira_pred.specs.Question.{QuestionCases}
use Rattle.ira_pred.specs.QuestionAnswer.{AnswersQuestions, AnswersFaults}
use Rattle.ira_pred.specs.QuestionLines.{LinesLeft, AreAllCases}
use Rattle.ira_pred.specs.QuestionText.{IsQuestionText}
use Rattle.ira_pred.specs.QuestionTextFault.{BeginsWithQuestionHead, CasesFault, no_head, past_head, QuestionTextFault}
use Rattle.ira_pred.proofs.QuestionAnswers.{question_or_fault, one_fault}
use Rattle.ira_pred.proofs.QuestionTexts.{one_question}

abbrev pub QuestionRead : Result QuestionCases AskFault → List ℕ → Type 0
QuestionRead (Ok q) text = IsQuestionText text q
QuestionRead (Err f) text = (f ≡ OutOfMemory) ⊎ QuestionTextFault text f

ok_is : (a b : QuestionCases) → ◌≡◌ {A = Result QuestionCases AskFault} (Ok a) (Ok b) → a ≡ b
ok_is a b e = cc

err_is : (f g : AskFault) → ◌≡◌ {A = Result QuestionCases AskFault} (Err f) (Err g) → f ≡ g
err_is f g e = cc

pub exactly_ok : (r : Result QuestionCases AskFault) (text : List ℕ) → QuestionRead r text → AnswersQuestions r text
exactly_ok (Ok x) text h q =
    inr (λ e. subst (IsQuestionText text) (ok_is x q e) h, λ k. ap Ok (one_question text x q h k))
exactly_ok (Err f) text (inl e) q = inl (ap Err e)
exactly_ok (Err f) text (inr h) q = inr (λ e. absurd cc, λ k. absurd (question_or_fault text q f k h))

pub exactly_err : (r : Result QuestionCases AskFault) (text : List ℕ) → QuestionRead r text → AnswersFaults r text
exactly_err (Ok x) text h f = inr (λ e. absurd cc, λ k. absurd (question_or_fault text x f h k))
exactly_err (Err g) text (inl e) f = inl (ap Err e)
exactly_err (Err g) text (inr h) f =
    inr (λ e. subst (QuestionTextFault text) (err_is g f e) h, λ k. ap Err (one_fault text g f h k))

abbrev pub asked_of : ℕ → List (List Conjunct) → QuestionCases
asked_of nodes cases = record { nodes = nodes; cases = cases }

pub question_read : (text : List ℕ) (nodes n : ℕ) (rest : List ℕ) (left : LinesLeft) (cases : List (List Conjunct))
    → length text ≤ 67108864 → BeginsWithQuestionHead text nodes rest → n ≡ nodes
    → left ≡ record { rest = rest; number = 3 } → AreAllCases n left.rest cases
    → IsQuestionText text (asked_of nodes cases)
question_read text nodes n rest left cases short a ring same b =
    let parts : rest ≡ b.front ++ codes "end\n" = sym (ap (λ (x : LinesLeft). x.rest) same) ∙ b.parts in record {
      head = a.head;
      cases = b.front;
      head_is = a.head_is;
      cases_are = b.cases_are;
      parts = a.parts ∙ ap (λ w. a.head ++ w) parts ∙ sym (append_assoc a.head b.front (codes "end\n"));
      short = short;
      valid = record {
        size = a.size;
        some = b.some;
        count = b.count;
        cases_are = subst (λ m. All (IsCase m) cases) ring b.valid;
      };
    }

pub question_not_read : (text : List ℕ) (nodes n : ℕ) (rest : List ℕ) (left : LinesLeft) (f : AskFault)
    → length text ≤ 67108864 → BeginsWithQuestionHead text nodes rest → n ≡ nodes
    → left ≡ record { rest = rest; number = 3 } → (f ≡ OutOfMemory) ⊎ CasesFault n left.rest f
    → QuestionRead (Err f) text
question_not_read text nodes n rest left f short a ring same (inl e) = inl e
question_not_read text nodes n rest left f short a ring same (inr h) =
    let its = subst (λ (x : LinesLeft). CasesFault n x.rest f) same h in
    inr (inr (short, past_head nodes rest a (subst (λ m. CasesFault m rest f) ring its)))

pub head_not_read : (text : List ℕ) → length text ≤ 67108864
    → ((nodes : ℕ) (rest : List ℕ) → ¬ (BeginsWithQuestionHead text nodes rest)) → QuestionRead (Err Head) text
head_not_read text short none = inr (inr (short, no_head none refl))
