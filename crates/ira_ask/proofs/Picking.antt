-- Which nodes are picked, and what is asked of each then.
use Rattle.std.proofs.Common.{◌≡◌, ◌≢◌, ◌<◌, ◌⊎◌, ℕ, ◌+◌, ◌-◌, true, false, [], ◌++◌, map}
use Rattle.std.proofs.Common.{Option, Some, None, refl, sym, ap, subst, ◌∙◌, arith, inl, inr}
use Rattle.std.specs.Prelude.{All, Contains}
use Rattle.std.proofs.lemmas.Bool.Decides.{nat_tests}
use Rattle.std.proofs.lemmas.Option.{same_Some}
use Rattle.std.proofs.lemmas.List.Elements.{All-nil, All-cons, All-append, Contains-append_left, Contains-append_right}
use Rattle.ira_pred.specs.Formula.{Formula}
use Rattle.ira_pred.specs.Pairs.{numbers_from}
use Rattle.ira_ask.specs.declared.picks.Picks.{Picks}
use Rattle.ira_ask.specs.declared.picks.Picks.TheVariants.{Nobody, One, Two, Alike}
use Rattle.ira_ask.specs.declared.places.Places.{Places}
use Rattle.ira_ask.specs.Asked.{is_place, own}
use Rattle.ira_ask.specs.Choices.{PicksOf, nobody, one, two, places_after, choices}
use Rattle.ira_ask.specs.Sentence.{IsPicked, Parts}
use Rattle.ira_ask.proofs.Lists.{All-map_numbers, All-flat_numbers, Contains-map_numbers, Contains-flat_numbers}

-- ---- what is asked of a node alone

place-is : (o : Option ℕ) (p : ℕ) → o ≡ Some p → is_place o p ≡ true
place-is o p e = rw e (grind (arith, nat_tests))

place-not : (o : Option ℕ) (p : ℕ) → o ≢ Some p → is_place o p ≡ false
place-not None p h = refl
place-not (Some i) p h = let differs : i ≢ p = λ e. h (ap Some e) in grind (arith, nat_tests)

pub own-any : (s : Parts) (c : Places) (i : ℕ) → c.any ≡ Some i → own s c i ≡ s.any
own-any s c i h = rw (place-is c.any i h) refl

pub own-other : (s : Parts) (c : Places) (j : ℕ) → c.any ≢ Some j → c.other ≡ Some j → own s c j ≡ s.other
own-other s c j h k = rw (place-not c.any j h, place-is c.other j k) refl

pub own-rest : (s : Parts) (c : Places) (p : ℕ) → c.any ≢ Some p → c.other ≢ Some p → own s c p ≡ s.each_other
own-rest s c p h k = rw (place-not c.any p h, place-not c.other p k) refl

-- a place is one of those that were picked, or it isn't
pub is_or_not : (o : Option ℕ) (p : ℕ) → (o ≡ Some p) ⊎ (o ≢ Some p)
is_or_not None p = inr (λ e. cc)
is_or_not (Some i) p =
    elim (below_or_not i p) [
      | inl e ↦ inl (ap Some e)
      | inr h ↦ inr (λ e. h (same_Some i p e))
    ]
  where
    below_or_not : (i p : ℕ) → (i ≡ p) ⊎ (i ≢ p)
    below_or_not i p = grind arith

-- ---- ways to pick nodes

-- a place of the ring, where something is asked of a node
abbrev pub Anything : Formula → ℕ → Type 0
Anything f p = Unit {0}

-- these nodes may be picked
pub record MayPick (n : ℕ) (any other : Option Formula) (c : Places) : Type 0 where
  pub any_is : IsPicked n Anything any c.any
  pub other_is : IsPicked n Anything other c.other
  pub different : (i : ℕ) → c.any ≡ Some i → c.other ≢ Some i

none-picked : (n : ℕ) (o : Option Formula) → o ≡ None → IsPicked n Anything o None
none-picked n None e = tt
none-picked n (Some f) e = absurd cc

some-picked : (n i : ℕ) (o : Option Formula) → o ≢ None → i < n → IsPicked n Anything o (Some i)
some-picked n i None h low = absurd (h refl)
some-picked n i (Some f) h low = (low, tt)

two-may : (n i j : ℕ) (a b : Option Formula) → a ≢ None → b ≢ None → i < n → j < n → i ≢ j → MayPick n a b (two i j)
two-may n i j a b some also low high differs = record {
  any_is = some-picked n i a some low;
  other_is = some-picked n j b also high;
  different = λ k e g. differs (same_Some i k e ∙ sym (same_Some j k g));
}

pub choices_may : (n : ℕ) (a b : Option Formula) (picks : Picks) → PicksOf a b picks
    → All (MayPick n a b) (choices n picks)
choices_may n a b Nobody h =
    All-cons (MayPick n a b) nobody [] (record {
      any_is = none-picked n a h.0;
      other_is = none-picked n b h.1;
      different = λ i e. cc;
    }) (All-nil (MayPick n a b))
choices_may n a b One h =
    All-map_numbers (MayPick n a b) one 0 n (λ i low high. record {
      any_is = some-picked n i a h.0 (omega (arith, high));
      other_is = none-picked n b h.1;
      different = λ k e g. cc;
    })
choices_may n a b Two h =
    All-flat_numbers (MayPick n a b) (λ i. map (two i) (numbers_from 0 i) ++ map (two i) (places_after n i)) 0 n
    (λ i low high. All-append (MayPick n a b) (map (two i) (numbers_from 0 i)) (map (two i) (places_after n i))
    (All-map_numbers (MayPick n a b) (two i) 0 i (λ j from to.
    two-may n i j a b h.0 h.1 (omega (arith, high)) (omega (arith, high, to)) (λ e. omega (arith, e, to))))
    (All-map_numbers (MayPick n a b) (two i) (i + 1) (n - (i + 1)) (λ j from to.
    two-may n i j a b h.0 h.1 (omega (arith, high)) (omega (arith, high, to)) (λ e. omega (arith, e, from)))))
choices_may n a b Alike h =
    All-flat_numbers (MayPick n a b) (λ i. map (two i) (places_after n i)) 0 n
    (λ i low high. All-map_numbers (MayPick n a b) (two i) (i + 1) (n - (i + 1)) (λ j from to.
    two-may n i j a b h.0 (λ e. h.0 (h.1 ∙ e)) (omega (arith, high)) (omega (arith, high, to))
    (λ e. omega (arith, e, from))))

-- ---- each way to pick them is among these, or else one that picks the same nodes

-- one of the choices picks the same nodes, for the same or for what is the same
pub record Chooses (n : ℕ) (At : Formula → ℕ → Type 0) (a b : Option Formula) (picks : Picks)
    (i j : Option ℕ) : Type 0 where
  pub choice : Places
  pub among : Contains (choices n picks) choice
  pub any_is : IsPicked n At a choice.any
  pub other_is : IsPicked n At b choice.other
  pub different : (k : ℕ) → choice.any ≡ Some k → choice.other ≢ Some k
  pub same : (k : ℕ) → choice.any ≢ Some k → choice.other ≢ Some k → (i ≢ Some k) × (j ≢ Some k)

pub among-two : (n i j : ℕ) → i < n → j < n → i ≢ j → Contains (choices n Two) (two i j)
among-two n i j low high differs =
    Contains-flat_numbers (λ k. map (two k) (numbers_from 0 k) ++ map (two k) (places_after n k)) 0 n i (two i j)
    (omega arith)
    (omega (arith, low)) (elim (less_or_more i j differs) [
      | inl less ↦ Contains-append_left (map (two i) (numbers_from 0 i)) (map (two i) (places_after n i)) (two i j)
          (Contains-map_numbers (two i) 0 i j (omega arith) (omega (arith, less)))
      | inr more ↦ Contains-append_right (map (two i) (numbers_from 0 i)) (map (two i) (places_after n i)) (two i j)
          (Contains-map_numbers (two i) (i + 1) (n - (i + 1)) j (omega (arith, more)) (omega (arith, more, high)))
    ])
  where
    less_or_more : (i j : ℕ) → i ≢ j → (j < i) ⊎ (i < j)
    less_or_more i j h = grind arith

pub among-alike : (n i j : ℕ) → i < j → j < n → Contains (choices n Alike) (two i j)
among-alike n i j less high =
    Contains-flat_numbers (λ k. map (two k) (places_after n k)) 0 n i (two i j) (omega arith) (omega
    (arith, less, high))
    (Contains-map_numbers (two i) (i + 1) (n - (i + 1)) j (omega (arith, less)) (omega (arith, less, high)))

find-two : (n : ℕ) (At : Formula → ℕ → Type 0) (f g : Formula) (i j : ℕ) → (i < n) × At f i → (j < n) × At g j → i ≢ j
    → Chooses n At (Some f) (Some g) Two (Some i) (Some j)
find-two n At f g i j h k differs = record {
  choice = two i j;
  among = among-two n i j h.0 k.0 differs;
  any_is = h;
  other_is = k;
  different = λ p e d. differs (same_Some i p e ∙ sym (same_Some j p d));
  same = λ p e d. (e, d);
}

find-alike : (n : ℕ) (At : Formula → ℕ → Type 0) (f g : Formula) (i j : ℕ) → f ≡ g → (i < n) × At f i → (j < n) × At g j
    → i ≢ j → Chooses n At (Some f) (Some g) Alike (Some i) (Some j)
find-alike n At f g i j e h k differs =
    elim (less_or_more i j differs) [
      | inl more ↦ record {
        choice = two j i;
        among = among-alike n j i more h.0;
        any_is = (k.0, subst (λ x. At x j) (sym e) k.1);
        other_is = (h.0, subst (λ x. At x i) e h.1);
        different = λ p d c. differs (same_Some i p c ∙ sym (same_Some j p d));
        same = λ p d c. (c, d);
      }
      | inr less ↦ record {
        choice = two i j;
        among = among-alike n i j less k.0;
        any_is = h;
        other_is = k;
        different = λ p d c. differs (same_Some i p d ∙ sym (same_Some j p c));
        same = λ p d c. (d, c);
      }
    ]
  where
    less_or_more : (i j : ℕ) → i ≢ j → (j < i) ⊎ (i < j)
    less_or_more i j h = grind arith

apart : (i j : ℕ) → ((k : ℕ) → Some i ≡ Some k → Some j ≢ Some k) → i ≢ j
apart i j h e = h i refl (ap Some (sym e))

pub find : (n : ℕ) (At : Formula → ℕ → Type 0) (a b : Option Formula) (i j : Option ℕ) (picks : Picks)
    → PicksOf a b picks
    → IsPicked n At a i → IsPicked n At b j → ((k : ℕ) → i ≡ Some k → j ≢ Some k) → Chooses n At a b picks i j
find n At None None None None Nobody h p q d = record {
  choice = nobody;
  among = (0, omega arith, refl);
  any_is = tt;
  other_is = tt;
  different = d;
  same = λ k e f. (e, f);
}
find n At (Some f) None (Some i) None One h p q d = record {
  choice = one i;
  among = Contains-map_numbers one 0 n i (omega arith) (omega (arith, p.0));
  any_is = p;
  other_is = tt;
  different = d;
  same = λ k e f. (e, f);
}
find n At (Some f) (Some g) (Some i) (Some j) Two h p q d = find-two n At f g i j p q (apart i j d)
find n At (Some f) (Some g) (Some i) (Some j) Alike h p q d =
    find-alike n At f g i j (same_Some f g h.1) p q (apart i j d)
find n At None b None j One h p q d = absurd (h.0 refl)
find n At None b None j Two h p q d = absurd (h.0 refl)
find n At None b None j Alike h p q d = absurd (h.0 refl)
find n At None (Some g) None j Nobody h p q d = absurd cc
find n At (Some f) b i j Nobody h p q d = absurd cc
find n At (Some f) (Some g) i j One h p q d = absurd cc
find n At (Some f) None i j Two h p q d = absurd (h.1 refl)
find n At (Some f) None i j Alike h p q d = absurd cc
find n At None b (Some i) j picks h p q d = absurd p
find n At (Some f) b None j picks h p q d = absurd p
find n At (Some f) None (Some i) (Some j) One h p q d = absurd q
find n At None None None (Some j) Nobody h p q d = absurd q
find n At (Some f) (Some g) (Some i) None picks h p q d = absurd q
