-- The text of a question is put together line by line.
use Rattle.std.proofs.Common.{◌≡◌, ◌≢◌, ◌<◌, ◌≤◌, ◌+◌, ◌-◌, ℕ, List, [], ◌++◌, map, drop, get_or, length, Option}
use Rattle.std.proofs.Common.{Some, None, sym, ap, subst, ◌∙◌, arith, append_assoc, length-append, inl, inr}
use Rattle.std.specs.Prelude.{codes, decimal, Result, Ok, Err}
use Rattle.std.specs.List.{flat_map}
use Rattle.std.proofs.lemmas.Grind.{common_steps, flat_map-append}
use Rattle.std.proofs.lemmas.List.{append-nil}
use Rattle.ira_event.proofs.Rest.{drop-at}
use Rattle.ira_pred.specs.Case.{Conjunct}
use Rattle.ira_pred.specs.Formula.{Formula, both}
use Rattle.ira_pred.specs.Pairs.{numbers_from}
use Rattle.ira_pred.specs.QuestionText.{IsShort, case_text, clause_text, conjunct_text, question_text}
use Rattle.ira_pred.proofs.PairCases.{next-number, last-number}
use Rattle.ira_ask.specs.declared.places.Places.{Places}
use Rattle.ira_ask.specs.declared.sentence_fault.SentenceFault.{SentenceFault}
use Rattle.ira_ask.specs.Asked.{case_of, placed, together}
use Rattle.ira_ask.specs.AskedTexts.{asked_of}
use Rattle.ira_ask.specs.Reading.{IsClauseText, Joins, JoinsBoth, Spells}
use Rattle.ira_ask.specs.Sentence.{Parts}
use Rattle.ira_ask.specs.SentenceText.{IsClause, MayBeClause}
use Rattle.ira_ask.proofs.Parting.{clause_known}

-- ---- a line

regrouped : (old d s c n : List ℕ) → old ++ d ++ s ++ c ++ n ≡ old ++ ((d ++ s ++ c ++ n) ++ [])
regrouped old d s c n = simp (append_assoc, append-nil)

pub some_line : (p : ℕ) (o : Option Formula) (clause old new : List ℕ) → Spells (Some clause) o
    → new ≡ old ++ decimal p ++ codes ": " ++ clause ++ codes "\n" → new ≡ old ++ flat_map conjunct_text (placed p o)
some_line p None clause old new h e = absurd h
some_line p (Some f) clause old new h e =
    e ∙ ap (λ t. old ++ decimal p ++ codes ": " ++ t ++ codes "\n") h.1
    ∙ regrouped old (decimal p) (codes ": ") (clause_text f) (codes "\n")

pub no_line : (p : ℕ) (o : Option Formula) (old : List ℕ) → Spells None o → old ≡ old ++ flat_map conjunct_text
    (placed p o)
no_line p None old h = sym (append-nil old)
no_line p (Some f) old h = absurd h

pub next_line : (f : ℕ → List Conjunct) (p n : ℕ) (old new : List ℕ) → p < n → new ≡ old ++ flat_map conjunct_text (f p)
    → new ++ flat_map conjunct_text (flat_map f (numbers_from (p + 1) (n - (p + 1))))
    ≡ old ++ flat_map conjunct_text (flat_map f (numbers_from p (n - p)))
next_line f p n old new low e =
    let rest = flat_map f (numbers_from (p + 1) (n - (p + 1))) in
    ap (λ x. x ++ flat_map conjunct_text rest) e
    ∙ append_assoc old (flat_map conjunct_text (f p)) (flat_map conjunct_text rest)
    ∙ ap (λ x. old ++ x) (sym (flat_map-append conjunct_text (f p) rest))
    ∙ ap (λ x. old ++ flat_map conjunct_text (flat_map f x)) (sym (next-number p n low))

pub last_line : (f : ℕ → List Conjunct) (p n : ℕ) (old whole : List ℕ) → n ≤ p
    → old ++ flat_map conjunct_text (flat_map f (numbers_from p (n - p))) ≡ whole → old ≡ whole
last_line f p n old whole end e =
    sym (append-nil old) ∙ ap (λ x. old ++ flat_map conjunct_text (flat_map f x)) (sym (last-number p n end)) ∙ e

-- ---- two clauses

both_spelled : {X : Type 0} (texts_of : X → Option (List ℕ)) (own all : List ℕ) (x : X) (f g : Option Formula)
    → (texts_of x ≡ Some (codes "(" ++ own ++ codes " and " ++ all ++ codes ")"))
    × IsClauseText (codes "(" ++ own ++ codes " and " ++ all ++ codes ")")
    → Spells (Some own) f → Spells (Some all) g → Spells (texts_of x) (together f g)
both_spelled texts_of own all x None g h p q = absurd p
both_spelled texts_of own all x (Some a) None h p q = absurd q
both_spelled texts_of own all x (Some a) (Some b) h p q =
    let is : codes "(" ++ own ++ codes " and " ++ all ++ codes ")" ≡ clause_text (both a b) =
    ap (λ t. codes "(" ++ t ++ codes " and " ++ all ++ codes ")") p.1
    ∙ ap (λ t. codes "(" ++ clause_text a ++ codes " and " ++ t ++ codes ")") q.1 in
    let k = h.1.0 in
    let same : k ≡ both a b = clause_known k (both a b) h.1.1.0 (p.0.0, q.0.0) (sym h.1.2 ∙ is) in
    subst (λ t. Spells t (Some (both a b))) (sym h.0) (subst IsClause same h.1.1, is)

both_deep : (own all : List ℕ) (f g : Option Formula)
    → ¬ (IsClauseText (codes "(" ++ own ++ codes " and " ++ all ++ codes ")"))
    → Spells (Some own) f → Spells (Some all) g → ¬ (MayBeClause (together f g))
both_deep own all None g h p q = absurd p
both_deep own all (Some a) None h p q = absurd q
both_deep own all (Some a) (Some b) h p q = λ k. h (
  both a b,
  k,
  ap (λ t. codes "(" ++ t ++ codes " and " ++ all ++ codes ")") p.1
      ∙ ap (λ t. codes "(" ++ clause_text a ++ codes " and " ++ t ++ codes ")") q.1,
)

pub both_joined : {X : Type 0} (texts_of : X → Option (List ℕ)) (own all : List ℕ) (r : Result X SentenceFault)
    → JoinsBoth texts_of own all r → Joins texts_of (Some own) (Some all) r
both_joined texts_of own all (Ok x) h = λ f g p q. both_spelled texts_of own all x f g h p q
both_joined texts_of own all (Err e) (inl h) = inl h
both_joined texts_of own all (Err e) (inr h) = inr (h.0, λ f g p q. both_deep own all f g h.1 p q)

pub spelled_alike : (t : List ℕ) (a b : Option Formula) → Spells (Some t) a → Spells (Some t) b → (a ≢ None) × (a ≡ b)
spelled_alike t None b h k = absurd h
spelled_alike t (Some f) None h k = absurd k
spelled_alike t (Some f) (Some g) h k =
    (λ e. cc, ap Some (clause_known f g h.0.0 k.0.0 (sym h.1 ∙ k.1)))

-- ---- cases

abbrev pub head : ℕ → List ℕ
head n = codes "irask 1\n" ++ codes "nodes " ++ decimal n ++ codes "\n"

-- the text so far, and the cases that are left
abbrev pub IsSoFar : ℕ → Parts → List Places → ℕ → List ℕ → Type 0
IsSoFar n s choices i text =
    text ++ flat_map case_text (map (case_of n s) (drop i choices))
    ≡ head n ++ flat_map case_text (map (case_of n s) choices)

pub next_case : (n : ℕ) (s : Parts) (choices : List Places) (i : ℕ) (c d : Places) (old new : List ℕ)
    → i < length choices
    → c ≡ get_or choices i d → new ≡ old ++ case_text (case_of n s c) → IsSoFar n s choices i old
    → IsSoFar n s choices (i + 1) new
next_case n s choices i c d old new low is e h =
    let rest = flat_map case_text (map (case_of n s) (drop (i + 1) choices)) in
    ap (λ x. x ++ rest) e ∙ append_assoc old (case_text (case_of n s c)) rest
    ∙ ap (λ x. old ++ flat_map case_text (map (case_of n s) x)) (sym (drop-at choices i c d low is)) ∙ h

pub too_long_so_far : (n : ℕ) (s : Parts) (choices : List Places) (i : ℕ) (text : List ℕ)
    → IsSoFar n s choices i text → 67108864 < length text → ¬ (IsShort (asked_of n s choices))
too_long_so_far n s choices i text h long short =
    let rest = flat_map case_text (map (case_of n s) (drop i choices)) in
    let all = head n ++ flat_map case_text (map (case_of n s) choices) in
    let a = length-append text rest in
    let b = ap length h in
    let c = length-append all (codes "end\n") in
    omega (arith, a, b, c, long, short)

pub none_left : {X : Type 0} (xs : List X) (i : ℕ) → length xs ≤ i → drop i xs ≡ []
none_left xs i h = grind (arith, common_steps)

pub whole_question : (n : ℕ) (s : Parts) (choices : List Places) (i : ℕ) (old new : List ℕ) → drop i choices ≡ []
    → new ≡ old ++ codes "end\n" → IsSoFar n s choices i old → new ≡ question_text (asked_of n s choices)
whole_question n s choices i old new none e h =
    e ∙ ap (λ x. x ++ codes "end\n") (sym (append-nil old)
    ∙ ap (λ x. old ++ flat_map case_text (map (case_of n s) x)) (sym none) ∙ h)
