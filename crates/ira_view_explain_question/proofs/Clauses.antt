-- Clauses of a case in the lines of a question's text, one more at a time.
use Rattle.std.proofs.Common.{◌≡◌, ◌∙◌, ◌<◌, ℕ, ◌+◌, List, [], ◌∷◌, ◌++◌, Option, Some, append_assoc, append-nil, ap}
use Rattle.std.proofs.Common.{arith, ◌≤◌, false, length, nat_le, refl, subst}
use Rattle.std.proofs.lemmas.Bool.Decides.{nat_tests}
use Rattle.std.specs.Prelude.{codes}
use Rattle.std.specs.List.{flat_map}
use Rattle.std.proofs.lemmas.Grind.{flat_map-append}
use Rattle.std.proofs.lemmas.List.{length_push}
use Rattle.ira_event.specs.Numeral.{IsNumeral}
use Rattle.ira_event.specs.Scan.{kept, kept_at}
use Rattle.ira_event.proofs.RecordLines.{bind_some, kept-again, kept-takes, map_some, word-takes}
use Rattle.ira_order.proofs.Pushed.{each_pushed}
use Rattle.ira_pred.specs.Case.{Conjunct}
use Rattle.ira_pred.specs.QuestionScan.{place_at}
use Rattle.ira_pred.specs.QuestionText.{IsPlaced}
use Rattle.ira_view_page.specs.Lines.{IsLine}
use Rattle.ira_view_page.specs.Quoted.{quoted_text}
use Rattle.ira_view_page.specs.declared.named_text.NamedText.{NamedText}
use Rattle.ira_view_explain_question.specs.AskedLines.{AreClauseLines, clause_line, listed_text, more_clauses_text}

pub listed_first : (lines : List (List ℕ)) (line : List ℕ) → length lines ≤ 0
    → listed_text (lines ++ line ∷ []) ≡ listed_text lines ++ quoted_text line
listed_first [] line none = append-nil (quoted_text line)
listed_first (x ∷ lines) line none = absurd (omega (arith, none))

pub listed_next : (lines : List (List ℕ)) (line : List ℕ) → 0 < length lines
    → listed_text (lines ++ line ∷ []) ≡ listed_text lines ++ (codes ", " ++ quoted_text line)
listed_next [] line some = absurd (omega (arith, some))
listed_next (x ∷ lines) line some =
    let f : List ℕ → List ℕ = λ l. codes ", " ++ quoted_text l in
    ap (λ w. quoted_text x ++ w) (flat_map-append f lines (line ∷ []) ∙ ap (λ w. flat_map f lines ++ w)
    (append-nil (f line)))
    ∙ simp append_assoc

pub clauses_more : (question : NamedText) (cases : List (List Conjunct)) (number n : ℕ) (lines : List (List ℕ))
    (line : List ℕ) → AreClauseLines question cases number n lines
    → ∥ IsLine question.text.now (clause_line cases number n) line ∥₁
    → AreClauseLines question cases number (n + 1) (lines ++ line ∷ [])
clauses_more question cases number n lines line are is = record {
  count_is = omega (arith, length_push lines line, are.count_is);
  each = each_pushed (λ (i : ℕ) (l : List ℕ). ∥ IsLine question.text.now (clause_line cases number i) l ∥₁) lines n
      line are.count_is are.each is;
}

pub all_clauses : (question : NamedText) (cases : List (List Conjunct)) (number n m : ℕ) (lines : List (List ℕ))
    → n ≡ m → AreClauseLines question cases number n lines → AreClauseLines question cases number m lines
all_clauses question cases number n m lines same are =
    subst (λ k. AreClauseLines question cases number k lines) same are

pub more_clauses : (count : ℕ) → 8 < count → more_clauses_text count ≡ codes ", .."
more_clauses count many = (let test : nat_le count 8 ≡ false = grind (arith, nat_tests) in rw test refl)

-- what is scanned after a place is there
pub placed_there : (line clause : List ℕ) (place : ℕ) → place_at line ≡ Some (place, clause)
    → (n : ℕ) × IsPlaced line n clause
placed_there line clause place e =
    let number = bind_some (kept_at line) _ (place, clause) e in
    let rest = map_some _ _ (place, clause) number.2 in
    let first = kept-takes line number.0 number.1 in
    let word = word-takes (codes ": ") number.0.1 rest.0 rest.1 in
    let same : rest.0 ≡ clause = ap (λ (p : ℕ × List ℕ). p.1) rest.2 in (
      first.n,
      (
        first.text,
        first.parts ∙ ap (λ w. first.text ++ w) (word ∙ ap (λ w. codes ": " ++ w) same)
            ∙ simp append_assoc,
        first.is,
      ),
    )

-- and what stands after a place is scanned
pub place_scanned : (line clause : List ℕ) (n : ℕ) → IsPlaced line n clause → place_at line ≡ Some (kept n, clause)
place_scanned line clause n placed =
    let regrouped : line ≡ placed.0 ++ (codes ": " ++ clause) = placed.1 ∙ simp append_assoc in
    ap place_at regrouped ∙ rw (kept-again placed.0 n (codes ": " ++ clause) placed.2 refl) refl

-- and its digits are the number in front
pub place_kept : (line digits clause : List ℕ) (n : ℕ) → line ≡ digits ++ codes ": " ++ clause → IsNumeral digits n
    → kept_at line ≡ Some (kept n, codes ": " ++ clause)
place_kept line digits clause n parts is =
    let regrouped : line ≡ digits ++ (codes ": " ++ clause) = parts ∙ simp append_assoc in
    ap kept_at regrouped ∙ kept-again digits n (codes ": " ++ clause) is refl

-- what is left after the number that was kept is one
pub left_of_kept : (o : Option (ℕ × List ℕ)) (m n : ℕ) (rest after : List ℕ) → o ≡ Some (m, rest) → o ≡ Some (n, after)
    → rest ≡ after
left_of_kept o m n rest after a b = (let same : (m, rest) ≡ (n, after) = cc in ap (λ (p : ℕ × List ℕ). p.1) same)
