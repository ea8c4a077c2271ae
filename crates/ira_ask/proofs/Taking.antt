-- A part is taken off what is left of a sentence.
use Rattle.std.proofs.Common.{◌≡◌, ◌<◌, ◌≤◌, ℕ, suc, true, false, nat_eq, nat_lt, List, [], ◌∷◌, ◌++◌, length}
use Rattle.std.proofs.Common.{take, drop, get_or, Option, Some, None, refl, sym, ap, subst, ◌∙◌, arith, append_assoc}
use Rattle.std.proofs.Common.{length-append}
use Rattle.std.specs.Prelude.{codes, position}
use Rattle.std.specs.List.{position_or_len}
use Rattle.std.proofs.Math.Seq.{split_at}
use Rattle.std.proofs.lemmas.Bool.Decides.{nat_tests}
use Rattle.std.proofs.lemmas.List.{append_cancel_left, append-nil, get_or-take, length-take, take-append-drop}
use Rattle.std.proofs.lemmas.List.Folds.{list_any_none}
use Rattle.std.proofs.lemmas.List.Quantifiers.{position-Some}
use Rattle.std.proofs.lemmas.List.Sums.{fails_before_first}
use Rattle.ira_event.specs.Scan.{after_word}
use Rattle.ira_event.proofs.Pieces.{split_same, first_differs}
use Rattle.ira_event.proofs.RecordLines.{word-takes, word-again}
use Rattle.ira_event.proofs.LogReading.{position-cases}
use Rattle.ira_pred.specs.Formula.{Formula}
use Rattle.ira_pred.specs.QuestionText.{clause_text}
use Rattle.ira_ask.specs.declared.sentence_part.SentencePart.{SentencePart}
use Rattle.ira_ask.specs.Reading.{HasNoComma, HasNoPart, IsClauseText, SplitsPart, TakesPart, fits, left_text}
use Rattle.ira_ask.specs.SentenceText.{BeginsWith, HasWord, part_text, word_of}
use Rattle.ira_ask.proofs.Parting.{clause-lacks}

-- ---- the first comma

pub no_comma : (text : List ℕ) → position (λ c. nat_eq c 44) text ≡ None → HasNoComma text
no_comma text e =
    let test : nat_lt (position_or_len (λ c. nat_eq c 44) text) (length text) ≡ false = position-cases _ _ e in
    list_any_none (λ c. nat_eq c 44) text (λ k d lt.
    fails_before_first (λ c. nat_eq c 44) text k d (grind (arith, nat_tests)))

comma-is : (c : ℕ) → nat_eq c 44 ≡ true → c ≡ 44
comma-is c h = grind (arith, nat_tests)

-- the text in front of the first comma, and the comma with what follows it
record FirstComma (text : List ℕ) (i : ℕ) : Type 0 where
  pub front : HasNoComma (take i text)
  pub parts : text ≡ take i text ++ (44 ∷ drop (suc i) text)

first_comma : (text : List ℕ) (i : ℕ) → position (λ c. nat_eq c 44) text ≡ Some i → FirstComma text i
first_comma text i e =
    let p = position-Some (λ c. nat_eq c 44) text i 0 e in
    record {
      front = list_any_none (λ c. nat_eq c 44) (take i text) (λ k d lt.
          let below : k < i = omega (arith, length-take i text) in
          let before = position-Some (λ c. nat_eq c 44) text i d e in
          rw (get_or-take i text k d below) (before.2 k below));
      parts = split_at text i 0 p.0 ∙ ap (λ c. take i text ++ (c ∷ drop (suc i) text)) (comma-is (get_or text i 0) p.1);
    }

pub front_and_rest : (text front rest : List ℕ) (i : ℕ) → front ≡ take i text → rest ≡ drop i text
    → front ++ rest ≡ text
front_and_rest text front rest i e f =
    ap (λ x. x ++ rest) e ∙ ap (λ x. take i text ++ x) f ∙ take-append-drop i text

pub whole_part : (text : List ℕ) → position (λ c. nat_eq c 44) text ≡ None → SplitsPart text text None
whole_part text e = (no_comma text e, sym (append-nil (text ++ codes ", ")))

pub split_part_is : (text front rest left : List ℕ) (i : ℕ) → position (λ c. nat_eq c 44) text ≡ Some i
    → front ≡ take i text → front ++ rest ≡ text → after_word (codes ", ") rest ≡ Some left
    → SplitsPart text front (Some left)
split_part_is text front rest left i e f all w =
    let comma = first_comma text i e in (
      subst HasNoComma (sym f) comma.front,
      ap (λ t. t ++ codes ", ") (sym all ∙ ap (λ r. front ++ r) (word-takes (codes ", ") rest left w))
          ∙ simp append_assoc,
    )

space-first : (d more : List ℕ) → d ++ codes ", " ≡ 32 ∷ more → (e : List ℕ) × (d ≡ 32 ∷ e)
space-first [] more e = absurd (first_differs 44 32 _ _ refl e)
space-first (c ∷ d) more e = (d, let same : c ≡ 32 = cc in ap (λ x. x ∷ d) same)

none-some : {X : Type 0} (o : Option X) (x : X) → o ≡ None → o ≡ Some x → ⊥
none-some o x h k = let both = sym h ∙ k in cc

pub no_split : (text front rest : List ℕ) (i : ℕ) → position (λ c. nat_eq c 44) text ≡ Some i → front ≡ take i text
    → front ++ rest ≡ text → after_word (codes ", ") rest ≡ None → HasNoPart text
no_split text front rest i e f all w clause more lacks is =
    let comma = first_comma text i e in
    let d = drop (suc i) text in
    let parted = split_same 44 (take i text) clause (d ++ codes ", ") (32 ∷ more) comma.front lacks
    (sym (append_assoc (take i text) (44 ∷ d) (codes ", ")) ∙ ap (λ t. t ++ codes ", ") (sym comma.parts) ∙ is
    ∙ append_assoc clause (codes ", ") more) in
    let space = space-first d more parted.1 in
    let after : rest ≡ codes ", " ++ space.0 =
    append_cancel_left (take i text) rest (44 ∷ d) (ap (λ t. t ++ rest) (sym f) ∙ all ∙ comma.parts)
    ∙ ap (λ x. 44 ∷ x) space.1 in
    none-some (after_word (codes ", ") rest) space.0 w (ap (after_word (codes ", ")) after ∙ word-again
    (codes ", ") space.0)

-- ---- a part of a word

pub word_comes : (part : SentencePart) (text after : List ℕ) → after_word (word_of part) text ≡ Some after
    → HasWord part text
word_comes part text after w = (after, word-takes (word_of part) text after w)

pub no_word : (word text more : List ℕ) → after_word word text ≡ None → text ≡ word ++ more → ⊥
no_word word text more none e =
    none-some (after_word word text) more none (ap (after_word word) e ∙ word-again word more)

begun : (word text after : List ℕ) (f : Formula) (more : List ℕ) → after_word word text ≡ Some after
    → text ++ codes ", " ≡ part_text word f ++ more → after ++ codes ", " ≡ clause_text f ++ codes ", " ++ more
begun word text after f more w e =
    append_cancel_left word _ _ (sym (append_assoc word after (codes ", "))
    ∙ ap (λ t. t ++ codes ", ") (sym (word-takes word text after w)) ∙ e ∙ simp append_assoc)

pub no_part_of_word : (word text after : List ℕ) → after_word word text ≡ Some after → HasNoPart after
    → ¬ (BeginsWith word (text ++ codes ", "))
no_part_of_word word text after w none h =
    none (clause_text h.0) h.1 (clause-lacks h.0 h.2.0) (begun word text after h.0 h.1 w h.3)

pub no_clause_of_word : (word text after clause : List ℕ) (left : Option (List ℕ)) → after_word word text ≡ Some after
    → SplitsPart after clause left → ¬ (IsClauseText clause) → ¬ (BeginsWith word (text ++ codes ", "))
no_clause_of_word word text after clause left w split none h =
    let is = begun word text after h.0 h.1 w h.3 in
    let parted = split_same 44 clause (clause_text h.0) (32 ∷ left_text left) (32 ∷ h.1) split.0
    (clause-lacks h.0 h.2.0)
    (sym (append_assoc clause (codes ", ") (left_text left)) ∙ sym split.1 ∙ is
    ∙ append_assoc (clause_text h.0) (codes ", ") h.1) in
    none (h.0, h.2, parted.0)

-- a part is no longer than the text
pub part_fits : (word text after clause : List ℕ) (left : Option (List ℕ)) → after_word word text ≡ Some after
    → SplitsPart after clause left → length text ≤ 65536 → fits (Some clause) × fits left
part_fits word text after clause None w split short =
    let a = ap length (word-takes word text after w) in
    let b = length-append word after in
    let c = ap length split.1 in
    let d = length-append after (codes ", ") in
    let e = length-append (clause ++ codes ", ") [] in
    let f = length-append clause (codes ", ") in
    (omega (arith, a, b, c, d, e, f), tt)
part_fits word text after clause (Some left) w split short =
    let a = ap length (word-takes word text after w) in
    let b = length-append word after in
    let c = ap length split.1 in
    let d = length-append after (codes ", ") in
    let e = length-append (clause ++ codes ", ") (left ++ codes ", ") in
    let f = length-append clause (codes ", ") in
    let g = length-append left (codes ", ") in
    (omega (arith, a, b, c, d, e, f, g), omega (arith, a, b, c, d, e, f, g))

pub part_taken : (part : SentencePart) (text after clause : List ℕ) (left : Option (List ℕ))
    → after_word (word_of part) text ≡ Some after
    → SplitsPart after clause left → length text ≤ 65536 → IsClauseText clause
    → TakesPart part (Some text) left (Some clause)
part_taken part text after clause left w split short is =
    let word = word_of part in
    let fit = part_fits word text after clause left w split short in (
      is.0,
      is.1,
      is.2,
      ap (λ t. t ++ codes ", ") (word-takes word text after w) ∙ append_assoc word after (codes ", ")
          ∙ ap (λ t. word ++ t) (split.1 ∙ ap (λ t. t ++ codes ", " ++ left_text left) is.2) ∙ simp append_assoc,
      fit.0,
      fit.1,
    )
