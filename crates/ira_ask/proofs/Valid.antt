-- The question of a sentence keeps all limits.
use Rattle.std.proofs.Common.{◌≡◌, ◌≢◌, ◌<◌, ◌≤◌, ◌⊎◌, ℕ, zero, suc, ◌+◌, List, [], ◌∷◌, ◌++◌, length, Option, Some}
use Rattle.std.proofs.Common.{None, refl, sym, subst, ◌∙◌, arith, inl, inr}
use Rattle.std.specs.Prelude.{All, AllPairs, Contains}
use Rattle.std.specs.List.{flat_map}
use Rattle.std.proofs.lemmas.List.{length-map}
use Rattle.std.proofs.lemmas.List.Elements.{All-nil, All-cons, All-map}
use Rattle.std.proofs.lemmas.List.Kept.{AllPairs-cons}
use Rattle.ira_event.specs.RingSize.{IsRingSize}
use Rattle.ira_pred.specs.Limits.{MAX_CASES}
use Rattle.ira_pred.specs.Formula.{Formula}
use Rattle.ira_pred.specs.Case.{Conjunct, IsConjunct, IsCase}
use Rattle.ira_pred.specs.Pairs.{numbers_from}
use Rattle.ira_pred.specs.Question.{QuestionCases, IsQuestion}
use Rattle.ira_pred.specs.QuestionText.{IsQuestionText, question_text}
use Rattle.ira_pred.proofs.QuestionTexts.{one_text}
use Rattle.ira_ask.specs.declared.picks.Picks.{Picks}
use Rattle.ira_ask.specs.declared.picks.Picks.TheVariants.{Nobody, One, Two, Alike}
use Rattle.ira_ask.specs.declared.places.Places.{Places}
use Rattle.ira_ask.specs.Asked.{asked, case_of, own, placed, together, wanted}
use Rattle.ira_ask.specs.Choices.{PicksOf, choices, one}
use Rattle.ira_ask.specs.Sentence.{IsPicked, Parts}
use Rattle.ira_ask.specs.SentenceAnswer.{HasClauses, IsAsked, asks_node, asks_parts}
use Rattle.ira_ask.specs.SentenceText.{IsTextOfParts, MayBeClause, sentence_text}
use Rattle.ira_ask.proofs.Lists.{All-flat_numbers, Contains-flat_numbers, Contains-map_numbers}
use Rattle.ira_ask.proofs.Nodes.{node_has_text}
use Rattle.ira_ask.proofs.Parting.{ends-in-comma}
use Rattle.ira_ask.proofs.Picking.{Anything, MayPick, among-alike, among-two, choices_may, is_or_not, own-any}
use Rattle.ira_ask.proofs.Picking.{own-other, own-rest}

-- ---- lines of a case

asked-clause : (s : Parts) (c : Places) (p : ℕ) → HasClauses s → MayBeClause (wanted s c p)
asked-clause s c p h =
    elim (is_or_not c.any p) [
      | inl e ↦ subst (λ o. MayBeClause (together o s.all)) (sym (own-any s c p e)) h.any
      | inr d ↦ elim (is_or_not c.other p) [
        | inl e ↦ subst (λ o. MayBeClause (together o s.all)) (sym (own-other s c p d e)) h.other
        | inr e ↦ subst (λ o. MayBeClause (together o s.all)) (sym (own-rest s c p d e)) h.each_other
      ]
    ]

placed-is : (n p : ℕ) (o : Option Formula) → p < n → MayBeClause o → All (IsConjunct n) (placed p o)
placed-is n p None low h = All-nil (IsConjunct n)
placed-is n p (Some f) low h =
    All-cons (IsConjunct n) (record { place = p; formula = f }) [] (record { in_ring = low; deep = h.1; numbers = h.0 })
    (All-nil (IsConjunct n))

placed-after : (i p : ℕ) (o : Option Formula) → i < p → All (λ (c : Conjunct). i < c.place) (placed p o)
placed-after i p None low = All-nil (λ c. i < c.place)
placed-after i p (Some f) low =
    All-cons (λ c. i < c.place) (record { place = p; formula = f }) [] low (All-nil (λ c. i < c.place))

abbrev Rises : Conjunct → Conjunct → Type 0
Rises a b = a.place < b.place

placed-rises : (i : ℕ) (o : Option Formula) (xs : List Conjunct) → All (λ (c : Conjunct). i < c.place) xs
    → AllPairs Rises xs → AllPairs Rises (placed i o ++ xs)
placed-rises i None xs h k = k
placed-rises i (Some f) xs h k = AllPairs-cons Rises (record { place = i; formula = f }) xs h k

lines-rise : (w : ℕ → Option Formula) (i k : ℕ) → AllPairs Rises (flat_map (λ p. placed p (w p)) (numbers_from i k))
lines-rise w i zero = λ a b d lt within. absurd (omega (arith, within))
lines-rise w i (suc k) =
    placed-rises i (w i) (flat_map (λ p. placed p (w p)) (numbers_from (i + 1) k))
    (All-flat_numbers (λ c. i < c.place) (λ p. placed p (w p)) (i + 1) k (λ p low high.
    placed-after i p (w p) (omega (arith, low))))
    (lines-rise w (i + 1) k)

-- ---- each case has a line

own-some : (a b : Option Formula) → a ≢ None → together a b ≢ None
own-some None b h = absurd (h refl)
own-some (Some f) None h = λ e. cc
own-some (Some f) (Some g) h = λ e. cc

all-some : (a b : Option Formula) → b ≢ None → together a b ≢ None
all-some a None h = absurd (h refl)
all-some None (Some g) h = λ e. cc
all-some (Some f) (Some g) h = λ e. cc

placed-some : (p : ℕ) (o : Option Formula) → o ≢ None → (c : Conjunct) × Contains (placed p o) c
placed-some p None h = absurd (h refl)
placed-some p (Some f) h = (record { place = p; formula = f }, (0, omega arith, refl))

not-empty : {X : Type 0} (xs : List X) (x : X) → Contains xs x → xs ≢ []
not-empty [] x c e = absurd (omega (arith, c.1))
not-empty (y ∷ ys) x c e = cc

case-some : (n : ℕ) (s : Parts) (c : Places) (p : ℕ) → p < n → wanted s c p ≢ None → case_of n s c ≢ []
case-some n s c p low h =
    let line = placed-some p (wanted s c p) h in
    not-empty (case_of n s c) line.0
    (Contains-flat_numbers (λ q. placed q (wanted s c q)) 0 n p line.0 (omega arith) (omega (arith, low)) line.1)

something : (s : Parts) (text : List ℕ) → IsTextOfParts text s → (s.any ≢ None) ⊎ (s.all ≢ None)
something s text h =
    some-part s.any s.other s.each_other s.all h.parts.others (λ e. ends-in-comma text (sym (h.spelled ∙ e)))
  where
    some-part : (a o r l : Option Formula) → (a ≡ None → (o ≡ None) × (r ≡ None))
        → ¬ (sentence_text (record { any = a; other = o; each_other = r; all = l }) ≡ [])
        → (a ≢ None) ⊎ (l ≢ None)
    some-part (Some f) o r l h k = inl (λ e. cc)
    some-part None o r (Some g) h k = inr (λ e. cc)
    some-part None None None None h k = absurd (k refl)
    some-part None (Some f) r None h k = let none = (h refl).0 in absurd cc
    some-part None None (Some f) None h k = let none = (h refl).1 in absurd cc

picked-some : (n : ℕ) (o : Option Formula) (i : Option ℕ) → o ≢ None → IsPicked n Anything o i
    → (p : ℕ) × (p < n) × (i ≡ Some p)
picked-some n None i h k = absurd (h refl)
picked-some n (Some f) None h k = absurd k
picked-some n (Some f) (Some p) h k = (p, k.0, refl)

has-line : (n : ℕ) (s : Parts) (c : Places) → 2 ≤ n → MayPick n s.any s.other c → (s.any ≢ None) ⊎ (s.all ≢ None)
    → case_of n s c ≢ []
has-line n s c size may (inl some) =
    let at = picked-some n s.any c.any some may.any_is in
    case-some n s c at.0 at.1
    (subst (λ o. together o s.all ≢ None) (sym (own-any s c at.0 at.2)) (own-some s.any s.all some))
has-line n s c size may (inr some) = case-some n s c 0 (omega (arith, size)) (all-some (own s c 0) s.all some)

case-is : (n : ℕ) (s : Parts) (c : Places) → 2 ≤ n → MayPick n s.any s.other c → HasClauses s
    → (s.any ≢ None) ⊎ (s.all ≢ None) → IsCase n (case_of n s c)
case-is n s c size may h some = record {
  some = has-line n s c size may some;
  conjuncts_are = record {
    each = All-flat_numbers (IsConjunct n) (λ p. placed p (wanted s c p)) 0 n (λ p low high.
        placed-is n p (wanted s c p) (omega (arith, high)) (asked-clause s c p h));
    rising = lines-rise (wanted s c) 0 n;
  };
}

-- ---- the question

All-imply : {X : Type 0} (P Q : X → Type 0) (xs : List X) → ((x : X) → P x → Q x) → All P xs → All Q xs
All-imply P Q xs h a k d low = h _ (a k d low)

choices-some : (n : ℕ) (picks : Picks) → 2 ≤ n → 1 ≤ length (choices n picks)
choices-some n Nobody size = omega arith
choices-some n One size =
    let c = Contains-map_numbers one 0 n 0 (omega arith) (omega (arith, size)) in omega (arith, c.1)
choices-some n Two size =
    let c = among-two n 0 1 (omega (arith, size)) (omega (arith, size)) (λ e. cc) in omega (arith, c.1)
choices-some n Alike size = let c = among-alike n 0 1 (omega arith) (omega (arith, size)) in omega (arith, c.1)

pub asked_is : (n : ℕ) (text : List ℕ) (s : Parts) (picks : Picks) → IsRingSize n → IsTextOfParts text s
    → HasClauses s
    → PicksOf s.any s.other picks → length (choices n picks) ≤ MAX_CASES → IsQuestion (asked n s picks)
asked_is n text s picks size is clauses of few =
    let long = length-map (choices n picks) (case_of n s) in
    let least = choices-some n picks size.0 in
    let some = something s text is in
    record {
      size = size;
      some = omega (arith, long, least);
      count = omega (arith, long, few);
      cases_are = All-map (IsCase n) (case_of n s) (choices n picks)
          (All-imply (MayPick n s.any s.other) (λ c. IsCase n (case_of n s c)) (choices n picks)
          (λ c may. case-is n s c size.0 may clauses some) (choices_may n s.any s.other picks of));
    }

pub question_has_text : (n : ℕ) (text : List ℕ) (q : QuestionCases) → IsRingSize n → IsAsked n text q
    → IsQuestionText (question_text q) q
question_has_text n text q size (asks_parts h) =
    (one_text (question_text q) q).1 (
      subst IsQuestion (sym h.is) (asked_is n text h.sentence h.picks size h.text_is h.clauses h.picks_are h.few),
      h.short,
      refl,
    )
question_has_text n text q size (asks_node p f short is low e) =
    subst (λ x. IsQuestionText (question_text x) x) (sym e) (node_has_text n p f text size short is low)
