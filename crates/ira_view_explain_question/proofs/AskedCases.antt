-- How many clauses a case has, and in which lines of a question's text they stand.
use Rattle.std.proofs.Common.{◌≡◌, ◌∙◌, ℕ, zero, suc, ◌+◌, ◌-◌, ◌<◌, ◌≤◌, List, [], ◌∷◌, ◌++◌, AllPairs, arith}
use Rattle.std.proofs.Common.{ap, get_or, length, subst, take}
use Rattle.std.specs.Prelude.{codes}
use Rattle.std.proofs.lemmas.List.{take_more}
use Rattle.std.proofs.lemmas.List.Sums.{sum_by_push}
use Rattle.ira_pred.specs.Case.{Conjunct, IsCaseOfSomeRing}
use Rattle.ira_pred.specs.Formula.{always}
use Rattle.ira_pred.specs.QuestionTextFault.{lines_of}
use Rattle.ira_view_page.specs.Lines.{IsFromLine, IsLine, first, next_line, past}

-- rising places are no lower than the numbers of their clauses
no_lower : (case : List Conjunct) (d : Conjunct) (i : ℕ) → AllPairs (λ a b. a.place < b.place) case → i < length case
    → i ≤ (get_or case i d).place
no_lower case d zero rising here = omega arith
no_lower case d (suc i) rising here =
    let before = no_lower case d i rising (omega (arith, here)) in
    let next = rising i (suc i) d (omega arith) here in
    omega (arith, before, next)

-- a case asks few nodes
pub few_clauses : (case : List Conjunct) → IsCaseOfSomeRing case → length case ≤ 255
few_clauses [] is = omega arith
few_clauses (c ∷ case) (nodes, size, is) =
    let last = length case in
    let d : Conjunct = record { place = 0; formula = always } in
    let here : last < length (c ∷ case) = omega arith in
    let high = no_lower (c ∷ case) d last is.conjuncts_are.rising here in
    let in_ring = (is.conjuncts_are.each last d here).in_ring in
    omega (arith, high, in_ring, size.1)

-- the lines of a case more
pub lines_more : (cases : List (List Conjunct)) (i : ℕ) (d : List Conjunct) → i < length cases
    → lines_of (take (i + 1) cases) ≡ lines_of (take i cases) + (length (get_or cases i d) + 1)
lines_more cases i d here =
    ap lines_of (take_more cases i d here) ∙ sum_by_push (λ c. length c + 1) (take i cases) (get_or cases i d)

-- lines of what stands from a line on
from_line_on : (text rest more : List ℕ) (start n m : ℕ) → 1 ≤ start → m + 1 ≡ start + n → IsFromLine text start rest
    → IsFromLine rest n more → IsFromLine text m more
from_line_on text rest more start n m some e from first =
    subst (λ k. IsFromLine text k rest) (omega (arith, e)) from
from_line_on text rest more start n m some e from (next_line number line r before whole) =
    let last = from_line_on text rest (line ++ codes "\n" ++ more) start number (m - 1) some (omega (arith, e, some))
    from before in
    subst (λ k. IsFromLine text k more) (omega (arith, e, some)) (next_line (m - 1) line more last whole)
from_line_on text rest more start n m some e from (past number line before whole) =
    let last = from_line_on text rest line start number (m - 1) some (omega (arith, e, some)) from before in
    subst (λ k. IsFromLine text k []) (omega (arith, e, some)) (past (m - 1) line last whole)

pub line_on : (text rest line : List ℕ) (start n m : ℕ) → 1 ≤ start → m + 1 ≡ start + n → IsFromLine text start rest
    → IsLine rest n line → IsLine text m line
line_on text rest line start n m some e from is = record {
  rest = is.rest;
  from = from_line_on text rest is.rest start n m some e from is.from;
  is_first = is.is_first;
}
