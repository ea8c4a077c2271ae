-- A helper, no definition: formulas as lists of numbers, by which the prover tells them apart.
use Rattle.std.specs.Coded.{Coded, code_by, coded×, coded_ℕ, coded_list}
use Rattle.std.specs.Prelude.{◌≡◌, ℕ, List, [], ◌∷◌, ◌==◌, if◌then◌else◌}
use Rattle.std.proofs.Common.{refl, ap, ◌∙◌}
use Rattle.ira_pred.specs.declared.rel.Rel.{Rel}
use Rattle.ira_pred.specs.declared.rel.Rel.TheVariants.{Less, Equal, Greater}
use Rattle.ira_pred.specs.Formula.{Formula, always, leader, active, passive, choosing, yielding, owes, round, id, term}
use Rattle.ira_pred.specs.Formula.{both, either, negated}

-- a kind, a comparison and a number
abbrev Token : Type 0
Token = ℕ × (ℕ × ℕ)

abbrev rel_number : Rel → ℕ
rel_number Less = 0
rel_number Equal = 1
rel_number Greater = 2

abbrev numbered_rel : ℕ → Rel
numbered_rel k = if k == 0 then Less else if k == 1 then Equal else Greater

numbered_rel-rel_number : (rel : Rel) → numbered_rel (rel_number rel) ≡ rel
numbered_rel-rel_number Less = refl
numbered_rel-rel_number Equal = refl
numbered_rel-rel_number Greater = refl

-- the tokens of the formula, parts first, in front of others
abbrev tokens : Formula → List Token → List Token
tokens always ts = (0, (0, 0)) ∷ ts
tokens leader ts = (1, (0, 0)) ∷ ts
tokens active ts = (2, (0, 0)) ∷ ts
tokens passive ts = (3, (0, 0)) ∷ ts
tokens choosing ts = (4, (0, 0)) ∷ ts
tokens owes ts = (5, (0, 0)) ∷ ts
tokens (round rel n) ts = (6, (rel_number rel, n)) ∷ ts
tokens (id rel n) ts = (7, (rel_number rel, n)) ∷ ts
tokens yielding ts = (11, (0, 0)) ∷ ts
tokens (term rel n) ts = (12, (rel_number rel, n)) ∷ ts
tokens (both a b) ts = tokens a (tokens b ((8, (0, 0)) ∷ ts))
tokens (either a b) ts = tokens a (tokens b ((9, (0, 0)) ∷ ts))
tokens (negated a) ts = tokens a ((10, (0, 0)) ∷ ts)

-- the formula made of the first one, or of the first two
abbrev made_of_one : (Formula → Formula) → List Formula → List Formula
made_of_one f [] = []
made_of_one f (a ∷ s) = f a ∷ s

abbrev made_of_two : (Formula → Formula → Formula) → List Formula → List Formula
made_of_two f [] = []
made_of_two f (b ∷ []) = []
made_of_two f (b ∷ a ∷ s) = f a b ∷ s

-- the formulas read so far, the last one first, and the next token
abbrev after_token : Token → List Formula → List Formula
after_token t s =
    if t.0 == 0 then always ∷ s else
    if t.0 == 1 then leader ∷ s else
    if t.0 == 2 then active ∷ s else
    if t.0 == 3 then passive ∷ s else
    if t.0 == 4 then choosing ∷ s else
    if t.0 == 5 then owes ∷ s else
    if t.0 == 6 then round (numbered_rel t.1.0) t.1.1 ∷ s else
    if t.0 == 7 then id (numbered_rel t.1.0) t.1.1 ∷ s else
    if t.0 == 8 then made_of_two both s else
    if t.0 == 9 then made_of_two either s else
    if t.0 == 11 then yielding ∷ s else
    if t.0 == 12 then term (numbered_rel t.1.0) t.1.1 ∷ s else
    made_of_one negated s

abbrev read : List Token → List Formula → List Formula
read [] s = s
read (t ∷ ts) s = read ts (after_token t s)

abbrev first : List Formula → Formula
first [] = always
first (f ∷ s) = f

read-tokens : (f : Formula) (ts : List Token) (s : List Formula) → read (tokens f ts) s ≡ read ts (f ∷ s)
read-tokens always ts s = refl
read-tokens leader ts s = refl
read-tokens active ts s = refl
read-tokens passive ts s = refl
read-tokens choosing ts s = refl
read-tokens owes ts s = refl
read-tokens (round rel n) ts s = ap (λ r. read ts (round r n ∷ s)) (numbered_rel-rel_number rel)
read-tokens (id rel n) ts s = ap (λ r. read ts (id r n ∷ s)) (numbered_rel-rel_number rel)
read-tokens yielding ts s = refl
read-tokens (term rel n) ts s = ap (λ r. read ts (term r n ∷ s)) (numbered_rel-rel_number rel)
read-tokens (both a b) ts s = read-tokens a (tokens b ((8, (0, 0)) ∷ ts)) s ∙ read-tokens b ((8, (0, 0)) ∷ ts) (a ∷ s)
read-tokens (either a b) ts s = read-tokens a (tokens b ((9, (0, 0)) ∷ ts)) s ∙ read-tokens b ((9, (0, 0)) ∷ ts) (a ∷ s)
read-tokens (negated a) ts s = read-tokens a ((10, (0, 0)) ∷ ts) s

pub formula-tokens : (f : Formula) → first (read (tokens f []) []) ≡ f
formula-tokens f = ap first (read-tokens f [] [])

abbrev pub formula_code : Coded Formula
formula_code =
    code_by (List Token) (coded_list (coded× coded_ℕ (coded× coded_ℕ coded_ℕ))) (λ f. tokens f []) (λ ts.
    first (read ts [])) formula-tokens
