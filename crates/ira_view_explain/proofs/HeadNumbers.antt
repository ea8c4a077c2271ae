-- Lines of a word and a number.
use Rattle.std.proofs.Common.{◌≡◌, ◌∙◌, ℕ, List, [], ◌++◌, Option, Some, append-nil, ap, subst, sym}
use Rattle.ira_event.specs.Scan.{after_word, kept, kept_at}
use Rattle.ira_event.proofs.RecordLines.{kept-again, kept-takes, word-again, word-takes}
use Rattle.ira_event.proofs.Numerals.{numeral_same}
use Rattle.ira_event.specs.Numeral.{IsNumeral}
use Rattle.std.proofs.lemmas.List.{append_cancel_left}
use Rattle.ira_view_explain.specs.HeadLine.{IsNumbered}

-- what such a line has after its word
pub number_left : (word line rest : List ℕ) (n : ℕ) → IsNumbered word line n → after_word word line ≡ Some rest
    → kept_at rest ≡ Some (kept n, [])
number_left word line rest n numbered after =
    let again : after_word word line ≡ Some numbered.0 = ap (after_word word) numbered.1 ∙ word-again word numbered.0 in
    let same : rest ≡ numbered.0 = cc in
    ap kept_at (same ∙ sym (append-nil numbered.0)) ∙ kept-again numbered.0 n [] numbered.2 tt

-- nothing stands after it
pub nothing_left : (o : Option (ℕ × List ℕ)) (m n : ℕ) (rest : List ℕ) → o ≡ Some (m, rest) → o ≡ Some (n, [])
    → rest ≡ []
nothing_left o m n rest a b =
    let same : (m, rest) ≡ (n, []) = cc in ap (λ (p : ℕ × List ℕ). p.1) same

-- it has the word
pub word_there : (word line : List ℕ) (n : ℕ) (numbered : IsNumbered word line n)
    → after_word word line ≡ Some numbered.0
word_there word line n numbered = ap (after_word word) numbered.1 ∙ word-again word numbered.0

-- the number that was kept of such a line
pub numbered_there : (word line rest : List ℕ) (number : ℕ) → after_word word line ≡ Some rest
    → kept_at rest ≡ Some (number, []) → (n : ℕ) × IsNumbered word line n × (number ≡ kept n)
numbered_there word line rest number after at =
    let k = kept-takes rest (number, []) at in (
      k.n,
      (k.text, word-takes word line rest after ∙ ap (λ w. word ++ w) (k.parts ∙ append-nil k.text), k.is),
      k.kept_is,
    )

-- a line has one number
pub one_number : (word line : List ℕ) (m n : ℕ) → IsNumbered word line m → IsNumbered word line n → m ≡ n
one_number word line m n a b =
    let same : b.0 ≡ a.0 = append_cancel_left word b.0 a.0 (sym b.1 ∙ a.1) in
    numeral_same a.0 m n a.2 (subst (λ (t : List ℕ). IsNumeral t n) same b.2)
