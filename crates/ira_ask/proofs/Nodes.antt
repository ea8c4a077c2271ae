-- Sentences on one node.
use Rattle.std.proofs.Common.{◌≡◌, ◌<◌, ◌≤◌, ℕ, ◌+◌, List, [], ◌∷◌, ◌++◌, length, Option, Some, None, refl, sym, ap, subst, ◌∙◌}
use Rattle.std.proofs.Common.{arith, append_assoc, length-append}
use Rattle.std.specs.Prelude.{codes, decimal, ◌↔◌, Contains}
use Rattle.std.proofs.lemmas.Fmt.{length-decimal-le}
use Rattle.std.proofs.lemmas.List.{append_cancel_left}
use Rattle.std.proofs.lemmas.List.Elements.{All-nil, All-cons, All-contains, All-head}
use Rattle.std.proofs.lemmas.Option.{same_Some}
use Rattle.ira_event.specs.Log.{Log}
use Rattle.ira_event.specs.Numeral.{IsNumeral}
use Rattle.ira_event.specs.RingSize.{IsRingSize}
use Rattle.ira_event.specs.Scan.{after_word, kept, kept_at}
use Rattle.ira_event.proofs.Numerals.{Lacks-numeral, numeral_same}
use Rattle.ira_event.proofs.Pieces.{first_differs, split_same}
use Rattle.ira_event.proofs.RecordLines.{bind_some, kept-again, kept-takes, map_some, word-takes}
use Rattle.ira_pred.specs.Case.{Conjunct}
use Rattle.ira_pred.specs.Formula.{Formula}
use Rattle.ira_pred.specs.QuestionText.{IsQuestionText, clause_text, question_text}
use Rattle.ira_pred.proofs.QuestionTexts.{one_text}
use Rattle.ira_cand.specs.Meets.{Meets}
use Rattle.ira_ask.specs.declared.sentence_fault.SentenceFault.TheVariants.{NoNode, NoPlace}
use Rattle.ira_ask.specs.Asked.{asked_at}
use Rattle.ira_ask.specs.Laws.{HoldsAtCut}
use Rattle.ira_ask.specs.Reading.{IsClauseText, place_at}
use Rattle.ira_ask.specs.Sentence.{Parts, Says, Sentence, of_node, of_parts}
use Rattle.ira_ask.specs.SentenceAnswer.{IsAsked, IsSentenceFault, asks_node, no_node, no_place}
use Rattle.ira_ask.specs.SentenceText.{IsSentenceText, IsTextOfParts, parts_text}
use Rattle.ira_ask.proofs.Parting.{clause_known, one_sentence}
use Rattle.ira_ask.proofs.Probes.{asked-is, asked-one}

-- ---- one text, one sentence

no_node_of_parts : (text more : List ℕ) (s : Parts) → text ≡ codes "node " ++ more → IsTextOfParts text s → ⊥
no_node_of_parts text more s e h =
    differs s.any s.other s.each_other s.all (ap (λ t. t ++ codes ", ") (sym e) ∙ h.spelled)
  where
    differs : (a o r l : Option Formula) → (codes "node " ++ more) ++ codes ", " ≡ parts_text (codes "any ") a ++ parts_text (codes "other ") o
        ++ parts_text (codes "each other ") r ++ parts_text (codes "all ") l
        → ⊥
    differs None None None None d = cc
    differs None None None (Some f) d = first_differs 110 97 _ _ refl d
    differs None None (Some f) l d = first_differs 110 101 _ _ refl d
    differs None (Some f) r l d = first_differs 110 111 _ _ refl d
    differs (Some f) o r l d = first_differs 110 97 _ _ refl d

-- what follows the word
after_node : (text number : List ℕ) (f : Formula)
    → codes "node " ++ text ≡ codes "node " ++ (number ++ (codes " " ++ clause_text f))
    → text ≡ number ++ (32 ∷ clause_text f)
after_node text number f e = append_cancel_left (codes "node ") text (number ++ (32 ∷ clause_text f)) e

pub one_said : (text : List ℕ) (a b : Sentence) → IsSentenceText text a → IsSentenceText text b → a ≡ b
one_said text (of_parts s) (of_parts t) h k = ap of_parts (one_sentence text s t h k)
one_said text (of_parts s) (of_node p f) h k = absurd (no_node_of_parts text (k.0 ++ (32 ∷ clause_text f)) s k.3 h)
one_said text (of_node p f) (of_parts s) h k = absurd (no_node_of_parts text (h.0 ++ (32 ∷ clause_text f)) s h.3 k)
one_said text (of_node p f) (of_node q g) h k =
    let after = after_node (k.0 ++ (32 ∷ clause_text g)) h.0 f (sym k.3 ∙ h.3) in
    let parted = split_same 32 h.0 k.0 (clause_text f) (clause_text g) (Lacks-numeral 32 h.0 p (omega arith) h.1)
    (Lacks-numeral 32 k.0 q (omega arith) k.1) (sym after) in
    ap (λ m. of_node m f) (numeral_same k.0 p q (subst (λ t. IsNumeral t p) parted.0 h.1) k.1)
    ∙ ap (of_node q) (clause_known f g h.2.0 k.2.0 parted.1)

-- ---- the place and the clause are read

place-again : (text number clause : List ℕ) (n : ℕ) → IsNumeral number n → text ≡ number ++ (32 ∷ clause)
    → place_at text ≡ Some (kept n, clause)
place-again text number clause n is e =
    ap place_at e ∙ rw (kept-again number n (32 ∷ clause) is refl) refl

-- where no clause follows a place the text is no sentence's
pub no_sentence : (text : List ℕ)
    → ((place : ℕ) (clause : List ℕ) → place_at text ≡ Some (place, clause) → ¬ (IsClauseText clause))
    → (s : Sentence) → ¬ (IsSentenceText (codes "node " ++ text) s)
no_sentence text none (of_parts s) h = no_node_of_parts (codes "node " ++ text) text s refl h
no_sentence text none (of_node p f) h =
    none (kept p) (clause_text f) (place-again text h.0 (clause_text f) p h.1 (after_node text h.0 f h.3)) (f, h.2, refl)

pub no_other : (text : List ℕ) (p q : ℕ) (a b : List ℕ) → place_at text ≡ Some (p, a) → place_at text ≡ Some (q, b)
    → ¬ (IsClauseText a) → ¬ (IsClauseText b)
no_other text p q a b e d none is =
    none (subst IsClauseText (ap (λ (x : ℕ × List ℕ). x.1) (same_Some (q, b) (p, a) (sym d ∙ e))) is)

-- a place was read
pub record IsPlaced (text : List ℕ) (place : ℕ) (clause : List ℕ) : Type 0 where
  pub n : ℕ
  pub number : List ℕ
  pub is : IsNumeral number n
  pub kept_is : place ≡ kept n
  pub text_is : text ≡ number ++ (32 ∷ clause)

placed : (text : List ℕ) (place : ℕ) (clause : List ℕ) → place_at text ≡ Some (place, clause)
    → IsPlaced text place clause
placed text place clause e =
    let a = bind_some (kept_at text) _ (place, clause) e in
    let b = map_some (after_word (codes " ") a.0.1) _ (place, clause) a.2 in
    let k = kept-takes text a.0 a.1 in
    let pair : (a.0.0, b.0) ≡ (place, clause) = b.2 in
    record {
      n = k.n;
      number = k.text;
      is = k.is;
      kept_is = sym (ap (λ (p : ℕ × List ℕ). p.0) pair) ∙ k.kept_is;
      text_is = k.parts ∙ ap (λ t. k.text ++ t) (word-takes (codes " ") a.0.1 b.0 b.1
          ∙ ap (λ (p : ℕ × List ℕ). 32 ∷ p.1) pair);
    }

pub clause_short : (text : List ℕ) (place : ℕ) (clause : List ℕ) → length (codes "node " ++ text) ≤ 65536
    → place_at text ≡ Some (place, clause) → length clause ≤ 1000000
clause_short text place clause short e =
    let p = placed text place clause e in
    omega (arith, short, ap length p.text_is, length-append p.number (32 ∷ clause))

-- where one does it is that of the node
node_sentence : (text clause : List ℕ) (place : ℕ) (is : IsClauseText clause) (p : IsPlaced text place clause)
    → IsSentenceText (codes "node " ++ text) (of_node p.n is.0)
node_sentence text clause place is p =
    (p.number, p.is, is.1, ap (λ t. codes "node " ++ t) (p.text_is ∙ ap (λ t. p.number ++ (32 ∷ t)) is.2))

pub refused_node : (n : ℕ) (text : List ℕ) → length (codes "node " ++ text) ≤ 65536
    → ((place : ℕ) (clause : List ℕ) → place_at text ≡ Some (place, clause) → ¬ (IsClauseText clause))
    → IsSentenceFault n (codes "node " ++ text) NoNode
refused_node n text short none = no_node short (text, refl) (no_sentence text none) refl

pub refused_place : (n : ℕ) (text : List ℕ) (place : ℕ) (clause : List ℕ) → length (codes "node " ++ text) ≤ 65536
    → place_at text ≡ Some (place, clause) → IsClauseText clause → n ≤ place
    → IsSentenceFault n (codes "node " ++ text) NoPlace
refused_place n text place clause short e is high =
    let p = placed text place clause e in
    no_place p.n is.0 short (node_sentence text clause place is p) (omega (arith, high, p.kept_is)) refl

pub asked_node : (n : ℕ) (text : List ℕ) (place : ℕ) (clause : List ℕ) → length (codes "node " ++ text) ≤ 65536
    → place_at text ≡ Some (place, clause) → (is : IsClauseText clause) → place < n → n ≤ 255
    → IsAsked n (codes "node " ++ text) (asked_at n place is.0)
asked_node n text place clause short e is low size =
    let p = placed text place clause e in
    let same : p.n ≡ place = omega (arith, low, size, p.kept_is) in
    asks_node place is.0 short
    (subst (λ m. IsSentenceText (codes "node " ++ text) (of_node m is.0)) same (node_sentence text clause place is p)) low
    refl

-- ---- its question

pub node_text : (n p : ℕ) (f : Formula) (clause head case line whole : List ℕ) → clause ≡ clause_text f
    → head ≡ codes "irask 1\nnodes " ++ decimal n ++ codes "\n" → case ≡ head ++ codes "case\n"
    → line ≡ case ++ decimal p ++ codes ": " ++ clause ++ codes "\n" → whole ≡ line ++ codes "end\n"
    → whole ≡ question_text (asked_at n p f)
node_text n p f clause head case line whole c h k l e =
    e ∙ ap (λ t. t ++ codes "end\n") (l ∙ ap (λ t. case ++ decimal p ++ codes ": " ++ t ++ codes "\n") c
    ∙ ap (λ t. t ++ decimal p ++ codes ": " ++ clause_text f ++ codes "\n") (k ∙ ap (λ t. t ++ codes "case\n") h))
    ∙ regrouped (codes "irask 1\nnodes ") (decimal n) (decimal p) (clause_text f) ∙ sym (asked-one n (record { place = p; formula = f }))
  where
    regrouped : (h n p c : List ℕ)
        → (h ++ n ++ codes "\n" ++ codes "case\n") ++ p ++ codes ": " ++ c ++ codes "\n" ++ codes "end\n"
        ≡ h ++ (n ++ (codes "\ncase\n" ++ (p ++ (codes ": " ++ (c ++ codes "\nend\n")))))
    regrouped h n p c = simp append_assoc

pub node_means : (n p : ℕ) (f : Formula) (logs : List Log) (cut : List ℕ) → p < n
    → ((case : List Conjunct) × Contains (asked_at n p f).cases case × Meets logs case cut)
    ↔ Says n (HoldsAtCut logs cut) (of_node p f)
node_means n p f logs cut low =
    let At : Conjunct → Type 0 = λ c. HoldsAtCut logs cut c.formula c.place in
    let c : Conjunct = record { place = p; formula = f } in
    let Is : List Conjunct → Type 0 = λ case. Meets logs case cut → HoldsAtCut logs cut f p in (
      λ h. (low, All-contains Is ((c ∷ []) ∷ []) h.0 (All-cons Is (c ∷ []) [] (All-head At c []) (All-nil Is)) h.1 h.2),
      λ says. (c ∷ [], (0, omega arith, refl), All-cons At c [] says.1 (All-nil At)),
    )

pub node_has_text : (n p : ℕ) (f : Formula) (text : List ℕ) → IsRingSize n → length text ≤ 65536
    → IsSentenceText text (of_node p f) → p < n → IsQuestionText (question_text (asked_at n p f)) (asked_at n p f)
node_has_text n p f text size short h low =
    let a = ap length h.3 in
    let b = length-append h.0 (codes " " ++ clause_text f) in
    let c = ap length (asked-one n (record { place = p; formula = f })) in
    let d : length (question_text (asked_at n p f))
    ≡ 27 + length (decimal n) + length (decimal p) + length (clause_text f) = c ∙ simp length-append (omega arith) in
    let e = length-decimal-le 7 n (omega arith) (omega (arith, size.1)) (omega (arith, size.1)) in
    let g = length-decimal-le 7 p (omega arith) (omega (arith, size.1, low)) (omega (arith, size.1, low)) in
    (one_text (question_text (asked_at n p f)) (asked_at n p f)).1
    (asked-is n p f size low h.2, omega (arith, short, a, b, d, e, g), refl)
