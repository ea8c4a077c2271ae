use Rattle.std.proofs.Common.{◌≡◌, ◌∙◌, ◌<◌, ℕ, Contains, List, [], ◌∷◌, ap, arith, length, nat_lt, refl, suc, sym, true, zero}
use Rattle.std.specs.List.{list_all}
use Rattle.std.proofs.lemmas.Bool.{and_from, and_parts, both_ways}
use Rattle.std.proofs.lemmas.Bool.Decides.{nat_tests}
use Rattle.ira_view.proofs.leads.differences.Goals as goal

-- numbers each of which is below another pass the test
all_below : (n : ℕ) (xs : List ℕ) → ((x : ℕ) → Contains xs x → x < n) → list_all (λ x. nat_lt x n) xs ≡ true
all_below n [] below = refl
all_below n (x ∷ xs) below =
    let first : x < n = below x (0, omega arith, refl) in
    and_from (nat_lt x n) (list_all (λ y. nat_lt y n) xs) (grind (arith, nat_tests, first))
    (all_below n xs (λ y has. below y (suc has.0, omega (arith, has.1), has.2)))

-- and those that pass it are
below_all : (n : ℕ) (xs : List ℕ) → list_all (λ x. nat_lt x n) xs ≡ true → (x : ℕ) → Contains xs x → x < n
below_all n [] all x has = absurd (omega (arith, has.1))
below_all n (y ∷ xs) all x (zero, within, has) =
    let first = (and_parts (nat_lt y n) (list_all (λ z. nat_lt z n) xs) all).0 in
    let same : y ≡ x = cc in
    grind (arith, nat_tests, first, same)
below_all n (y ∷ xs) all x (suc i, within, has) =
    below_all n xs (and_parts (nat_lt y n) (list_all (λ z. nat_lt z n) xs) all).1 x (i, omega (arith, within), has)

pub returns-then-not-are_places : goal.returns-then-not-are_places
returns-then-not-are_places g c = λ are.
    let nodes : length c.args.logs.now ≡ c.get.result =
    omega (arith, c.get.ensures.value, c.size.ensures.value, ap length c.logs-logs.ensures.value) in
    let all = all_below c.get.result c.args.named.now
    (λ place named. (let within = are place named in omega (arith, within, nodes))) in
    both_ways c.are_places.result c.if-not-are_places.true (c.are_places.ensures ∙ all)

pub returns : goal.returns
returns g c =
    let nodes : c.get.result ≡ length c.args.logs.now =
    omega (arith, c.get.ensures.value, c.size.ensures.value, ap length c.logs-logs.ensures.value) in
    let all = below_all c.get.result c.args.named.now
    (sym c.are_places.ensures ∙ c.if-not-are_places.false) in record {
      places = λ place named. (let within = all place named in omega (arith, within, nodes));
      moment = c.in_ok-moment.moment;
      is_end = rw c.logs-logs.ensures.value at c.in_ok-moment.ensures;
      text = c.in_ok-leads_differ.ensures.text;
      none = c.in_ok-leads_differ.ensures.none;
    }
