-- Rounds with one more draw.
use Rattle.std.proofs.Common.{◌≡◌, ◌∙◌, ℕ, suc, ◌+◌, ◌<◌, ◌≤◌, ◌⊎◌, inl, inr, Bool, true, false, List, [], ◌∷◌, ◌++◌}
use Rattle.std.proofs.Common.{Ordering, Less, Equal, Greater, zero, length, map, get_or, set, take, drop, refl, sym, subst, ap, arith}
use Rattle.std.specs.Prelude.{◌↔◌, Contains, if◌then◌else◌, nat_eq, nat_lt}
use Rattle.std.specs.List.{All, HoldsAt, insert}
use Rattle.std.specs.List.Sorted.{IsNonDecreasingBy, IsPartitionPoint}
use Rattle.std.specs.Ordering.{MatchOrdering, nat_cmp, ordering_then, ordering_index}
use Rattle.std.proofs.lemmas.Bool.{ltb-true, ltb-false, eqb-true, eqb-false}
use Rattle.std.proofs.lemmas.Bool.Decides.{nat_tests}
use Rattle.std.proofs.lemmas.Cmp.{ranked}
use Rattle.std.proofs.lemmas.List.{get_or-drop, get_or-map, get_or-take, get_or_default}
use Rattle.std.proofs.lemmas.List.{length-drop, length-map, length-take, map-append, set-get_or, set_split, take-append-drop}
use Rattle.std.proofs.lemmas.List.Elements.{All-contains, All-head, All-map, All-tail}
use Rattle.std.proofs.lemmas.List.Elements.{Contains-append_cases, Contains-append_left, Contains-append_right, Contains-push_cases}
use Rattle.ira_view_moment.specs.Drawing.{IsAdded, begins, begun, joined, joins}
use Rattle.ira_view_moment.specs.Rounds.{AreInOrder, AreRoundsOf, Draws, DrawnRound, HasRound, IsEarlier, IsRoundOf, drawn}
use Rattle.ira_view_moment.specs.Those.{AreThose, AreThosePlaces}
use Rattle.ira_view_moment.specs.declared.rounds.Round.{Round}
use Rattle.ira_view_moment.proofs.Those.{none_those, those_more, those_same}

-- ---- a round

-- these are the draws with one more, the first of its node or of a later one in its round
pub record IsOneMore (D E : Draws) (term number place id : ℕ) : Type 0 where
  pub kept : (i t n d : ℕ) → D i t n d → E i t n d
  pub new : E place term number id
  pub only :
      (i t n d : ℕ) → E i t n d → D i t n d ⊎ ((i ≡ place) × (t ≡ term) × (n ≡ number) × (d ≡ id))
  pub below : (i d : ℕ) → D i term number d → i < place

round_same : {D E : Draws} (r : DrawnRound) → ((i d : ℕ) → D i r.term r.number d ↔ E i r.term r.number d)
    → IsRoundOf D r → IsRoundOf E r
round_same r same is = record {
  draws = those_same (λ d. same d.0 d.1) is.draws;
  none_greater = λ i d x. is.none_greater i d ((same i d).1 x);
  greatest_of = those_same (λ i. same i r.greatest) is.greatest_of;
  somebody = (is.somebody.0, (same is.somebody.0 r.greatest).0 is.somebody.1);
}

module _ {D E : Draws} {term number place id : ℕ} (more : IsOneMore D E term number place id) where
  other_round : (r : DrawnRound) → (r.term ≡ term → r.number ≡ number → ⊥) → IsRoundOf D r → IsRoundOf E r
  other_round r other is = round_same r (λ i d. (
    more.kept i r.term r.number d,
    λ x. elim (more.only i r.term r.number d x) [ inl old ↦ old | inr it ↦ absurd (other it.1 it.2) ],
  )) is

  all_more : (draws : List (ℕ × ℕ)) → AreThose (λ d. d.0) (λ d. D d.0 term number d.1) draws
      → AreThose (λ d. d.0) (λ d. E d.0 term number d.1) (draws ++ (place, id) ∷ [])
  all_more draws = those_more {P = λ d. D d.0 term number d.1} draws (place, id) (λ d x. more.below d.0 d.1 x) (λ d. (
    λ h. elim h [
      | inl x ↦ more.kept d.0 term number d.1 x
      | inr e ↦ subst (λ (y : ℕ × ℕ). E y.0 term number y.1) e more.new
    ],
    λ x. elim (more.only d.0 term number d.1 x) [
      | inl old ↦ inl old
      | inr it ↦ inr (ap (λ i. (i, id)) (sym it.0) ∙ ap (λ n. (d.0, n)) (sym it.3))
    ],
  ))

  -- who drew the ID of the draw
  of_more : (places : List ℕ) → AreThosePlaces (λ i. D i term number id) places
      → AreThosePlaces (λ i. E i term number id) (places ++ place ∷ [])
  of_more places = those_more {P = λ i. D i term number id} places place (λ i x. more.below i id x) (λ i. (
    λ h. elim h [
      | inl x ↦ more.kept i term number id x
      | inr e ↦ subst (λ k. E k term number id) e more.new
    ],
    λ x. elim (more.only i term number id x) [ inl old ↦ inl old | inr it ↦ inr (sym it.0) ],
  ))

  most : (g h : ℕ) → ((i d : ℕ) → D i term number d → d ≤ g) → g ≤ h → id ≤ h → (i d : ℕ) → E i term number d → d ≤ h
  most g h low up own i d x = elim (more.only i term number d x) [
    | inl old ↦ (let l = low i d old in omega (arith, l, up))
    | inr it ↦ omega (arith, it.3, own)
  ]

  begun_is : ((i d : ℕ) → D i term number d → ⊥) → IsRoundOf E (begun term number place id)
  begun_is none = record {
    draws = all_more [] (none_those (λ d x. none d.0 d.1 x));
    none_greater = most 0 id (λ i d x. absurd (none i d x)) (omega arith) (omega arith);
    greatest_of = of_more [] (none_those (λ i x. none i id x));
    somebody = (place, more.new);
  }

module _ {D E : Draws} {place id : ℕ} (r : DrawnRound) (more : IsOneMore D E r.term r.number place id)
    (is : IsRoundOf D r) where
  with_greatest : (h : ℕ) (of : List ℕ) → r.greatest ≤ h → id ≤ h → AreThosePlaces (λ i. E i r.term r.number h) of
      → (i : ℕ) × E i r.term r.number h → IsRoundOf E (record {
        term = r.term;
        number = r.number;
        draws = r.draws ++ (place, id) ∷ [];
        greatest = h;
        greatest_of = of;
      })
  with_greatest h of up own are some = record {
    draws = all_more more r.draws is.draws;
    none_greater = most more r.greatest h is.none_greater up own;
    greatest_of = are;
    somebody = some;
  }

  joined_is : IsRoundOf E (joined place id r)
  joined_is = by (nat_lt r.greatest id) (nat_eq id r.greatest) refl refl
    where
      by : (b c : Bool) → nat_lt r.greatest id ≡ b → nat_eq id r.greatest ≡ c → IsRoundOf E (record {
        term = r.term;
        number = r.number;
        draws = r.draws ++ (place, id) ∷ [];
        greatest = if b then id else r.greatest;
        greatest_of = if b then place ∷ [] else if c then r.greatest_of ++ place ∷ [] else r.greatest_of;
      })
      by true c up same =
          let above : r.greatest < id = ltb-true r.greatest id up in
          with_greatest id (place ∷ []) (omega (arith, above)) (omega arith)
          (of_more more [] (none_those (λ i x. (let low = is.none_greater i id x in omega (arith, above, low)))))
          (place, more.new)
      by false true up same =
          let e : id ≡ r.greatest = eqb-true id r.greatest same in
          with_greatest r.greatest (r.greatest_of ++ place ∷ []) (omega arith) (omega (arith, e))
          (subst (λ g. AreThosePlaces (λ i. E i r.term r.number g) (r.greatest_of ++ place ∷ [])) e
          (of_more more r.greatest_of
          (subst (λ g. AreThosePlaces (λ i. D i r.term r.number g) r.greatest_of) (sym e) is.greatest_of)))
          (place, subst (E place r.term r.number) e more.new)
      by false false up same =
          with_greatest r.greatest r.greatest_of (omega arith) (ltb-false r.greatest id up)
          (those_same (λ i. (
            more.kept i r.term r.number r.greatest,
            λ x. elim (more.only i r.term r.number r.greatest x) [
              | inl old ↦ old
              | inr it ↦ absurd (eqb-false id r.greatest same (sym it.3))
            ],
          )) is.greatest_of)
          (is.somebody.0, more.kept is.somebody.0 r.term r.number r.greatest is.somebody.1)

-- ---- rounds in order

module _ {X : Type 0} (front : List X) (x : X) (back : List X) where
  itself : Contains (front ++ x ∷ back) x
  itself = Contains-append_right front (x ∷ back) x (0, omega arith, refl)

  others : (y : X) → Contains (front ++ back) y → Contains (front ++ x ∷ back) y
  others y c = elim (Contains-append_cases front back y c) [
    | inl a ↦ Contains-append_left front (x ∷ back) y a
    | inr a ↦ Contains-append_right front (x ∷ back) y (Contains-append_right (x ∷ []) back y a)
  ]

  no_other : (y : X) → Contains (front ++ x ∷ back) y → Contains (front ++ back) y ⊎ (x ≡ y)
  no_other y c = elim (Contains-append_cases front (x ∷ back) y c) [
    | inl a ↦ inl (Contains-append_left front back y a)
    | inr a ↦ elim (Contains-append_cases (x ∷ []) back y a) [
      | inl own ↦ elim (Contains-push_cases [] x y own) [ inl none ↦ absurd (omega (arith, none.1)) | inr e ↦ inr e ]
      | inr b ↦ inl (Contains-append_right front back y b)
    ]
  ]

abbrev Before : DrawnRound → DrawnRound → Type 0
Before r s = IsEarlier r s.term s.number

-- a round in place of one of the same number
order_kept : (place id : ℕ) (front : List DrawnRound) (r : DrawnRound) (back : List DrawnRound)
    → AreInOrder (front ++ r ∷ back) → AreInOrder (front ++ joined place id r ∷ back)
order_kept place id [] r back order = order
order_kept place id (f ∷ front) r back order = (
  λ s c. elim (no_other front (joined place id r) back s c) [
    | inl a ↦ order.0 s (others front r back s a)
    | inr e ↦ subst (Before f) e (order.0 r (itself front r back))
  ],
  order_kept place id front r back order.1,
)

order_with : (front : List DrawnRound) (r : DrawnRound) (back : List DrawnRound) → All (λ s. Before s r) front
    → All (Before r) back → AreInOrder (front ++ back) → AreInOrder (front ++ r ∷ back)
order_with [] r back before after order = (λ s c. All-contains (Before r) back s after c, order)
order_with (f ∷ front) r back before after order = (
  λ s c. elim (no_other front r back s c) [
    | inl a ↦ order.0 s a
    | inr e ↦ subst (Before f) e (All-head (λ q. Before q r) f front before)
  ],
  order_with front r back (All-tail (λ q. Before q r) f front before) after order.1,
)

-- two of which one is earlier have two numbers
differ : (r : DrawnRound) (term number : ℕ) → IsEarlier r term number → r.term ≡ term → r.number ≡ number → ⊥
differ r term number (inl less) t n = omega (arith, less, t)
differ r term number (inr less) t n = omega (arith, less.1, n)

once : (front : List DrawnRound) (r : DrawnRound) (back : List DrawnRound) → AreInOrder (front ++ r ∷ back)
    → (s : DrawnRound) → Contains (front ++ back) s → s.term ≡ r.term → s.number ≡ r.number → ⊥
once [] r back order s c t n = differ r s.term s.number (order.0 s c) (sym t) (sym n)
once (f ∷ front) r back order s c t n = elim (no_other [] f (front ++ back) s c) [
  | inl a ↦ once front r back order.1 s a t n
  | inr e ↦ differ s r.term r.number (subst (λ q. Before q r) e (order.0 r (itself front r back))) t n
]

with_round : {D E : Draws} {place id : ℕ} (front : List DrawnRound) (new : DrawnRound) (back : List DrawnRound)
    → IsOneMore D E new.term new.number place id → AreInOrder (front ++ new ∷ back)
    → ((r : DrawnRound) → Contains (front ++ back) r → IsRoundOf D r) → IsRoundOf E new
    → ((i t n d : ℕ) → D i t n d → HasRound (front ++ back) t n ⊎ ((t ≡ new.term) × (n ≡ new.number)))
    → AreRoundsOf E (front ++ new ∷ back)
with_round {E = E} front new back more order each is has = record {
  each = λ r c. elim (no_other front new back r c) [
    | inl a ↦ other_round more r (once front new back order r a) (each r a)
    | inr e ↦ subst (IsRoundOf E) e is
  ];
  all = λ i t n d x. elim (more.only i t n d x) [ inl old ↦ there t n (has i t n d old) | inr it ↦ there t n (inr (it.1, it.2)) ];
  in_order = order;
}
  where
    there : (t n : ℕ) → HasRound (front ++ back) t n ⊎ ((t ≡ new.term) × (n ≡ new.number))
        → HasRound (front ++ new ∷ back) t n
    there t n (inr e) = (new, itself front new back, sym e.0, sym e.1)
    there t n (inl h) = (h.0, others front new back h.0 h.1, h.2, h.3)

pub rounds_added : {D E : Draws} {term number place id : ℕ} → IsOneMore D E term number place id
    → (old new : List DrawnRound) → IsAdded term number place id old new → AreRoundsOf D old → AreRoundsOf E new
rounds_added {D = D} {E = E} {term = term} {number = number} {place = place} {id = id} more old new
    (begins front back before after was now) are =
    let at = subst (AreRoundsOf D) was are in
    let round : DrawnRound = begun term number place id in
    let order = order_with front round back before after at.in_order in
    let never : (i d : ℕ) → D i term number d → ⊥ =
    λ i d x. (let h = at.all i term number d x in once front round back order h.0 h.1 h.2 h.3) in
    subst (AreRoundsOf E) (sym now)
    (with_round front round back more order at.each (begun_is more never) (λ i t n d x. inl (at.all i t n d x)))
rounds_added {D = D} {E = E} {term = term} {number = number} {place = place} {id = id} more old new
    (joins front r back t n was now) are =
    let at = subst (AreRoundsOf D) was are in
    let here = subst (λ k. IsOneMore D E r.term k place id) (sym n)
    (subst (λ k. IsOneMore D E k number place id) (sym t) more) in
    subst (AreRoundsOf E) (sym now) (with_round front (joined place id r) back here (order_kept place id front r back at.in_order)
    (λ q c. at.each q (others front r back q c)) (joined_is r here (at.each r (itself front r back)))
    (λ i t n d x. (let h = at.all i t n d x in
    elim (no_other front r back h.0 h.1) [
      | inl a ↦ inl (h.0, a, h.2, h.3)
      | inr e ↦ inr (sym (ap (λ (q : DrawnRound). q.term) e ∙ h.2), sym (ap (λ (q : DrawnRound). q.number) e ∙ h.3))
    ])))

-- rounds of draws are those of the same draws
pub rounds_same : {D E : Draws} {rounds : List DrawnRound} → ((i t n d : ℕ) → D i t n d ↔ E i t n d)
    → AreRoundsOf D rounds → AreRoundsOf E rounds
rounds_same same are = record {
  each = λ r c. round_same r (λ i d. same i r.term r.number d) (are.each r c);
  all = λ i t n d x. are.all i t n d ((same i t n d).1 x);
  in_order = are.in_order;
}

-- ---- the rounds as they are kept

pub kept_at : {A : Type 0} (items : List (Round A)) (k : ℕ) (z : Round A) → k < length items
    → Contains (map drawn items) (drawn (get_or items k z))
kept_at items k z less =
    let r = get_or items k z in (
      k,
      omega (arith, less, length-map items drawn),
      get_or-map drawn items k r (drawn r) less ∙ ap drawn (get_or_default items k r z less),
    )

module _ (term number place id : ℕ) where
  abbrev compare : DrawnRound → Ordering
  compare r = ordering_then (nat_cmp r.term term) (nat_cmp r.number number)

  compared : (r : DrawnRound)
      → MatchOrdering (compare r) (IsEarlier r term number) ((r.term ≡ term) × (r.number ≡ number))
      (Before (begun term number place id) r)
  compared r =
      by (nat_cmp r.term term) (nat_cmp r.number number) (ranked r.term term _ refl) (ranked r.number number _ refl)
    where
      by : (x y : Ordering) → MatchOrdering x (r.term < term) (r.term ≡ term) (term < r.term)
          → MatchOrdering y (r.number < number) (r.number ≡ number) (number < r.number)
          → MatchOrdering (ordering_then x y) (IsEarlier r term number) ((r.term ≡ term) × (r.number ≡ number))
          (Before (begun term number place id) r)
      by Less y t n = inl t
      by Equal Less t n = inr (t, n)
      by Equal Equal t n = (t, n)
      by Equal Greater t n = inr (sym t, n)
      by Greater y t n = inl t

  compared_as : (o : Ordering) (r : DrawnRound) → compare r ≡ o
      → MatchOrdering o (IsEarlier r term number) ((r.term ≡ term) × (r.number ≡ number))
      (Before (begun term number place id) r)
  compared_as o r is =
      subst (λ x. MatchOrdering x (IsEarlier r term number) ((r.term ≡ term) × (r.number ≡ number))
      (Before (begun term number place id) r)) is (compared r)

  higher : (a b c d : ℕ) → (a < c) ⊎ ((a ≡ c) × (b < d))
      → ordering_index (ordering_then (nat_cmp a term) (nat_cmp b number))
      ≤ ordering_index (ordering_then (nat_cmp c term) (nat_cmp d number))
  higher a b c d (inl less) = grind (arith, nat_tests)
  higher a b c d (inr less) = grind (arith, nat_tests, less.0, less.1)

  rising : {A : Type 0} (items : List (Round A)) → AreInOrder (map drawn items)
      → IsNonDecreasingBy (λ y. ordering_index (compare (drawn y))) items
  rising [] order i j z le less = absurd (omega (arith, less))
  rising (r ∷ items) order zero zero z le less = omega arith
  rising (r ∷ items) order zero (suc j) z le less =
      let here : j < length items = omega (arith, less) in
      let s : DrawnRound = drawn (get_or items j z) in
      higher r.term r.number s.term s.number (order.0 s (kept_at items j z here))
  rising (r ∷ items) order (suc i) zero z le less = absurd (omega (arith, le))
  rising (r ∷ items) order (suc i) (suc j) z le less =
      rising items order.1 i j z (omega (arith, le)) (omega (arith, less))

  pub is_joined : {A : Type 0} (items : List (Round A)) (at : ℕ) (z s : Round A) → at < length items → z ≡ get_or items at z
      → HoldsAt (λ y. compare (drawn y) ≡ Equal) items at → drawn s ≡ joined place id (drawn z)
      → IsAdded term number place id (map drawn items) (map drawn (set items at s))
  is_joined {A = A} items at z s less is found now =
      let split : (x : Round A) → map drawn (set items at x)
      ≡ map drawn (take at items) ++ drawn x ∷ map drawn (drop (suc at) items) =
      λ x. ap (map drawn) (set_split items at x less) ∙ map-append drawn (take at items) (x ∷ drop (suc at) items) in
      let numbers = compared_as Equal (drawn z) (ap (λ y. compare (drawn y)) is ∙ found z) in
      joins (map drawn (take at items)) (drawn z) (map drawn (drop (suc at) items)) numbers.0 numbers.1
      (sym (ap (λ x. map drawn (set items at x)) is ∙ ap (map drawn) (set-get_or items at z)) ∙ split z)
      (split s ∙ ap (λ x. map drawn (take at items) ++ x ∷ map drawn (drop (suc at) items)) now)

  pub is_begun : {A : Type 0} (items : List (Round A)) (at : ℕ) (s : Round A) → AreInOrder (map drawn items) → at ≤ length items
      → (IsNonDecreasingBy (λ y. ordering_index (compare (drawn y))) items
      → IsPartitionPoint (λ y. compare (drawn y) ≡ Less) (λ y. compare (drawn y) ≡ Greater) items at)
      → drawn s ≡ begun term number place id
      → IsAdded term number place id (map drawn items) (map drawn (insert items at s))
  is_begun items at s order low parts now =
      let parted = parts (rising items order) in
      let P : DrawnRound → Type 0 = λ r. IsEarlier r term number in
      let Q : DrawnRound → Type 0 = Before (begun term number place id) in
      begins (map drawn (take at items)) (map drawn (drop at items))
      (All-map P drawn (take at items) (λ k z l. (let less : k < at = omega (arith, l, length-take at items) in
      compared_as Less (drawn (get_or (take at items) k z))
      (ap (λ y. compare (drawn y)) (get_or-take at items k z less) ∙ parted.0 k z (omega arith) less))))
      (All-map Q drawn (drop at items) (λ k z l. (
      compared_as Greater (drawn (get_or (drop at items) k z))
      (ap (λ y. compare (drawn y)) (get_or-drop at items k z)
      ∙ parted.1 (at + k) z (omega arith) (omega (arith, l, length-drop at items))))))
      (sym (ap (map drawn) (take-append-drop at items)) ∙ map-append drawn (take at items) (drop at items))
      (map-append drawn (take at items) (s ∷ drop at items)
      ∙ ap (λ x. map drawn (take at items) ++ x ∷ map drawn (drop at items)) now)
