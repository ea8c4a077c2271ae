-- Lines of a text, one after the other.
use Rattle.std.proofs.Common.{◌≡◌, ◌∙◌, ◌+◌, ◌<◌, ◌≤◌, ℕ, Bool, false, List, [], ◌∷◌, ◌++◌, append_assoc, ap, arith}
use Rattle.std.proofs.Common.{inr, nat_eq, refl, subst}
use Rattle.std.specs.Prelude.{cond, codes, count_by}
use Rattle.std.specs.List.{list_any}
use Rattle.std.proofs.lemmas.List.Sums.{sum_by-append, sum_by-cons}
use Rattle.ira_event.proofs.Pieces.{or_parts}
use Rattle.ira_event.specs.NextLine.{HasNoLineFeed}
use Rattle.ira_view_page.specs.Lines.{IsFromLine, IsLine, first, next_line, past, whole_lines}

none_counted : (p : ℕ → Bool) (xs : List ℕ) → list_any p xs ≡ false → count_by p xs ≡ 0
none_counted p [] none = refl
none_counted p (x ∷ xs) none =
    let both = or_parts (p x) (list_any p xs) none in
    let counted = sum_by-cons (λ (y : ℕ). cond (p y) 1 0) x xs in
    let f : Bool → ℕ = λ b. cond b 1 0 in
    let no : f (p x) ≡ 0 = ap f both.0 in
    omega (arith, counted, no, none_counted p xs both.1)

feeds : (line rest : List ℕ) → HasNoLineFeed line → whole_lines (line ++ codes "\n" ++ rest) ≡ whole_lines rest + 1
feeds line rest none =
    let f : ℕ → ℕ = λ c. cond (nat_eq c 10) 1 0 in
    let all = sum_by-append f (line ++ codes "\n") rest in
    let front = sum_by-append f line (codes "\n") in
    let here = none_counted (λ c. nat_eq c 10) line none in
    let feed : count_by (λ c. nat_eq c 10) (codes "\n") ≡ 1 = refl in
    omega (arith, all, front, here, feed)

-- how many lines are whole in front of a line
pub whole_before : (text : List ℕ) (number : ℕ) (rest : List ℕ) → IsFromLine text number rest
    → whole_lines text + 1 ≤ number + whole_lines rest
whole_before text number rest (first) = omega arith
whole_before text number rest (next_line n line after from none) =
    omega (arith, whole_before text n _ from, feeds line after none)
whole_before text number rest (past n line from none) =
    omega (arith, whole_before text n line from, none_counted (λ c. nat_eq c 10) line none)

-- the line that is followed by a line feed
pub line_there : (text : List ℕ) (number : ℕ) (rest line after : List ℕ) → IsFromLine text number rest
    → rest ≡ line ++ codes "\n" ++ after → HasNoLineFeed line → IsLine text number line
line_there text number rest line after from parts none = record {
  rest = rest;
  from = from;
  is_first = record {
    more = codes "\n" ++ after;
    begins = (parts ∙ append_assoc line (codes "\n") after, none);
    ends = inr (after, refl);
  };
}

-- a line without a line feed comes after all whole ones
pub past_whole : (text : List ℕ) (number : ℕ) (rest : List ℕ) → IsFromLine text number rest → HasNoLineFeed rest
    → whole_lines text < number
past_whole text number rest from none =
    omega (arith, whole_before text number rest from, none_counted (λ c. nat_eq c 10) rest none)

-- the line after one that is followed by a line feed
pub line_next : (text : List ℕ) (number : ℕ) (rest line after : List ℕ) → IsFromLine text number rest
    → rest ≡ line ++ codes "\n" ++ after → HasNoLineFeed line → IsFromLine text (number + 1) after
line_next text number rest line after from parts none =
    next_line number line after (subst (IsFromLine text number) parts from) none
