-- What holds of each place in the list of the asked ones holds of each node that has a list.
use Rattle.std.proofs.Common.{◌≡◌, ℕ, zero, suc, ◌+◌, ◌<◌, inl, inr, Bool, true, false, not, List, [], ◌∷◌, ◌++◌}
use Rattle.std.proofs.Common.{Option, Some, None, is_some, MatchOption, Contains, below_more, get_or, length, slice_get}
use Rattle.std.proofs.Common.{refl, sym, ◌∙◌, ap, subst, arith}
use Rattle.std.proofs.lemmas.List.{get_or_default}
use Rattle.std.proofs.lemmas.List.Elements.{Contains-append_left, Contains-append_right, Contains-append_cases}
use Rattle.std.proofs.lemmas.Option.{same_Some}
use Rattle.ira_cert.specs.Queues.{HasList}
use Rattle.ira_elim.specs.Elimination.{ArePlaces, IsFirstLeft}

pub at_place : (places : List ℕ) (k : ℕ) → k < length places → Contains places (get_or places k 0)
at_place places k l = (k, l, get_or_default places k (get_or places k 0) 0 l)

pub each_place : (queues : List (Option (List ℕ))) (places : List ℕ) (Q : ℕ → Type 0) → ArePlaces queues places
    → ((k : ℕ) → k < length places → Q (get_or places k 0)) → (i : ℕ) → HasList queues i → Q i
each_place queues places Q are all i has =
    let c = (are i).1 has in
    let e : get_or places c.0 0 ≡ i = get_or_default places c.0 0 i c.1 ∙ c.2 in
    subst Q e (all c.0 c.1)

-- what was found to be the first candidate left of a node
abbrev pub IsFront : List (Option (List ℕ)) → ℕ → Option ℕ → Type 0
IsFront queues i front = MatchOption front ((p : ℕ) → IsFirstLeft queues i p → ⊥) (λ p. IsFirstLeft queues i p)

empty_list : (left : List ℕ) → ((p : ℕ) → slice_get left 0 ≡ Some p → ⊥) → left ≡ []
empty_list [] none = refl
empty_list (x ∷ xs) none = absurd (none x refl)

-- a node with a list and without a first candidate left has an empty one
pub none_left : (queues : List (Option (List ℕ))) (i : ℕ) → ((p : ℕ) → IsFirstLeft queues i p → ⊥) → HasList queues i
    → slice_get queues i ≡ Some (Some [])
none_left queues i none has =
    has.1 ∙ ap (λ (xs : List ℕ). Some (Some xs)) (empty_list has.0 (λ p at. none p (has.0, has.1, at)))

pub no_front : (queues : List (Option (List ℕ))) (i : ℕ) (front : Option ℕ) (none : Bool) → IsFront queues i front
    → is_some front ≡ not none → none ≡ true → HasList queues i → slice_get queues i ≡ Some (Some [])
no_front queues i None none is tells e has = none_left queues i is has
no_front queues i (Some p) none is tells e has = absurd (let no : not none ≡ false = ap not e in cc)

pub some_front : (queues : List (Option (List ℕ))) (i : ℕ) (front : Option ℕ) (none : Bool) → IsFront queues i front
    → is_some front ≡ not none → none ≡ false → (p : ℕ) × IsFirstLeft queues i p
some_front queues i None none is tells e = absurd (let yes : not none ≡ true = ap not e in cc)
some_front queues i (Some p) none is tells e = (p, is)

-- a node has one first candidate left
pub one_first : (queues : List (Option (List ℕ))) (i j p q : ℕ) → i ≡ j → IsFirstLeft queues i p
    → IsFirstLeft queues j q → p ≡ q
one_first queues i j p q same a b =
    let lists : a.0 ≡ b.0 = same_Some a.0 b.0 (same_Some _ _ (sym a.1 ∙ ap (λ (k : ℕ). slice_get queues k) same ∙ b.1))
    in
    same_Some p q (sym a.2 ∙ ap (λ (xs : List ℕ). slice_get xs 0) lists ∙ b.2)

only_member : (x i : ℕ) → Contains (x ∷ []) i → i ≡ x
only_member x i (zero, l, e) = sym e
only_member x i (suc k, l, e) = absurd (omega arith)

module _ (queues : List (Option (List ℕ))) where
  -- each of these places has a list
  abbrev pub AreListed : List ℕ → Type 0
  AreListed places = (i : ℕ) → Contains places i → HasList queues i

  -- each place below n that has a list is one of these
  abbrev pub AreAllBelow : ℕ → List ℕ → Type 0
  AreAllBelow n places = (i : ℕ) → i < n → HasList queues i → Contains places i

  pub one_more : (places more : List ℕ) (n : ℕ) → HasList queues n → more ≡ places ++ n ∷ [] → AreListed places
      → AreAllBelow n places → AreListed more × AreAllBelow (n + 1) more
  one_more places more n has e listed all =
      let first : List ℕ = n ∷ [] in (
        λ i member. elim (Contains-append_cases places first i (subst (λ (xs : List ℕ). Contains xs i) e member)) [
          | inl old ↦ listed i old
          | inr new ↦ subst (HasList queues) (sym (only_member n i new)) has
        ],
        λ i l has_i. subst (λ (xs : List ℕ). Contains xs i) (sym e)
            (below_more (λ (i : ℕ). HasList queues i → Contains (places ++ first) i) n
            (λ j below has_j. Contains-append_left places first j (all j below has_j)) (λ _.
            Contains-append_right places first n (0, omega arith, refl)) i l has_i),
      )

  pub none_more : (places more : List ℕ) (n : ℕ) → ¬ (HasList queues n) → more ≡ places → AreListed places
      → AreAllBelow n places → AreListed more × AreAllBelow (n + 1) more
  none_more places more n none e listed all = (
    subst AreListed (sym e) listed,
    subst (AreAllBelow (n + 1)) (sym e) (below_more (λ (i : ℕ). HasList queues i
        → Contains places i) n all (λ has. absurd (none has))),
  )

  module _ {X : Type 0} (view : X → List ℕ) (n : ℕ) where
    -- what was found at a place
    abbrev IsFound : Option X → Type 0
    IsFound found = MatchOption found (HasList queues n → ⊥) (λ x. slice_get queues n ≡ Some (Some (view x)))

    pub found_some : (found : Option X) (some : Bool) → IsFound found → some ≡ is_some found → some ≡ true
        → HasList queues n
    found_some None some is tells e = absurd (let no : true ≡ false = sym e ∙ tells in cc)
    found_some (Some x) some is tells e = (view x, is)

    pub found_none : (found : Option X) (some : Bool) → IsFound found → some ≡ is_some found → some ≡ false
        → ¬ (HasList queues n)
    found_none None some is tells e = is
    found_none (Some x) some is tells e = absurd (let no : false ≡ true = sym e ∙ tells in cc)
