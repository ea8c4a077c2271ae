-- Texts without a separator, and the first separator of a text.
use Rattle.std.proofs.Common.{◌≡◌, ℕ, Bool, true, false, List, [], ◌∷◌, ◌++◌, ◌||◌, refl, sym, ap, ◌∙◌, arith, nat_eq}
use Rattle.std.proofs.Common.{append_assoc}
use Rattle.std.specs.List.{list_any}
use Rattle.std.specs.Prelude.{codes}
use Rattle.std.proofs.lemmas.Bool.Decides.{nat_tests}
use Rattle.ira_event.specs.NextLine.{HasNoLineFeed}

-- no element is c
abbrev pub Lacks : ℕ → List ℕ → Type 0
Lacks c text = list_any (λ x. nat_eq x c) text ≡ false

pub or_parts : (a b : Bool) → (a || b) ≡ false → (a ≡ false) × (b ≡ false)
or_parts true b h = absurd cc
or_parts false b h = (refl, h)

pub Lacks-append : (c : ℕ) (a b : List ℕ) → Lacks c a → Lacks c b → Lacks c (a ++ b)
Lacks-append c [] b h k = k
Lacks-append c (x ∷ xs) b h k = let p = or_parts (nat_eq x c) (list_any (λ y. nat_eq y c) xs) h in
    rw p.0 (Lacks-append c xs b p.1 k)

differ : (x c : ℕ) → nat_eq x c ≡ false → x ≡ c → ⊥
differ x c h e = grind (arith, nat_tests)

-- texts that begin with different bytes
pub first_differs : (a b : ℕ) (x y : List ℕ) → nat_eq a b ≡ false → a ∷ x ≡ b ∷ y → ⊥
first_differs a b x y h e = let same : a ≡ b = cc in differ a b h same

-- a text is parted at its first separator in one way
pub split_same : (c : ℕ) (a b x y : List ℕ) → Lacks c a → Lacks c b → a ++ (c ∷ x) ≡ b ++ (c ∷ y) → (a ≡ b) × (x ≡ y)
split_same c [] [] x y h k e = (refl, cc)
split_same c [] (w ∷ ws) x y h k e =
    let p = or_parts (nat_eq w c) (list_any (λ z. nat_eq z c) ws) k in let same : w ≡ c = cc in
    absurd (differ w c p.0 same)
split_same c (z ∷ zs) [] x y h k e =
    let p = or_parts (nat_eq z c) (list_any (λ y. nat_eq y c) zs) h in let same : z ≡ c = cc in
    absurd (differ z c p.0 same)
split_same c (z ∷ zs) (w ∷ ws) x y h k e =
    let p = or_parts (nat_eq z c) (list_any (λ y. nat_eq y c) zs) h in
    let q = or_parts (nat_eq w c) (list_any (λ y. nat_eq y c) ws) k in
    let first : z ≡ w = cc in
    let others : zs ++ (c ∷ x) ≡ ws ++ (c ∷ y) = cc in
    let r = split_same c zs ws x y p.1 q.1 others in
    (cc (r.0, first), r.1)

-- the same at a line feed
pub line_same : (a b x y : List ℕ) → HasNoLineFeed a → HasNoLineFeed b → a ++ codes "\n" ++ x ≡ b ++ codes "\n" ++ y
    → (a ≡ b) × (x ≡ y)
line_same a b x y h k e =
    split_same 10 a b x y h k (sym (append_assoc a (codes "\n") x) ∙ e ∙ append_assoc b (codes "\n") y)

-- a text that goes on with a separator has it
pub has_separator : (c : ℕ) (a x : List ℕ) → list_any (λ y. nat_eq y c) (a ++ (c ∷ x)) ≡ true
has_separator c [] x = let e : nat_eq c c ≡ true = grind (arith, nat_tests) in rw e refl
has_separator c (z ∷ zs) x =
    elim (nat_eq z c) as (λ b. (b || list_any (λ y. nat_eq y c) (zs ++ (c ∷ x))) ≡ true) [
      | true ↦ refl
      | false ↦ has_separator c zs x
    ]

pub line_has_feed : (a x : List ℕ) → HasNoLineFeed (a ++ codes "\n" ++ x) → ⊥
line_has_feed a x h = let t = has_separator 10 a x in
    let e = ap (list_any (λ y. nat_eq y 10)) (append_assoc a (codes "\n") x) in cc
