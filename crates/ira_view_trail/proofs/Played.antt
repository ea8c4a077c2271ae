-- An order by columns, event by event.
use Rattle.std.proofs.Common.{◌≡◌, ◌≢◌, ℕ, suc, ◌+◌, ◌<◌, ◌≤◌, ◌⊎◌, ◌↔◌, inl, inr, List, [], ◌∷◌, ◌++◌, length}
use Rattle.std.proofs.Common.{take, sym, ◌∙◌, ap, subst, arith, get_or, set}
use Rattle.std.specs.Prelude.{◌-◌, slice_index_or}
use Rattle.std.proofs.lemmas.Bool.{cases_eq, cases_lt}
use Rattle.std.proofs.lemmas.List.{get_or_past, take_all, take-append-le}
use Rattle.std.proofs.lemmas.Grind.{get_or_default_zero}
use Rattle.std.proofs.lemmas.List.Elements.{All-push}
use Rattle.std.proofs.lemmas.Option.{slice_get-get_or, slice_get_within}
use Rattle.ira_event.specs.Log.{Log}
use Rattle.ira_order.specs.Order.{StandsAt, occurrences}
use Rattle.ira_order.specs.Ring.{log_of}
use Rattle.ira_order.proofs.OrderPrefixes.{occurrences_push_other, occurrences_push_same, raised}
use Rattle.ira_order.proofs.Pushed.{found_in_push}
use Rattle.ira_order.proofs.Ranks.{occurrences_mono}
use Rattle.ira_view_trail.specs.Columns.{AreColumnsOf, Columns, IsEvent, IsLastColumn, column_of}
use Rattle.ira_view_trail.specs.Trail.{IsPlayed, IsPlayedTo}
use Rattle.ira_view_trail.proofs.Lines.{event_of}

-- a beginning of what was there before stays
pub begins : (order : List ℕ) (p t : ℕ) → t ≤ length order → take t (order ++ p ∷ []) ≡ take t order
begins order p t l = take-append-le t order (p ∷ []) l

pub whole_begins : (order : List ℕ) (p : ℕ) → take (length order) (order ++ p ∷ []) ≡ order
whole_begins order p = begins order p (length order) (omega arith) ∙ take_all (length order) order (omega arith)

-- what stands in an order with one event more
pub stands_push : (order : List ℕ) (p t j b : ℕ) → StandsAt (order ++ p ∷ []) t j b
    → ((t < length order) × StandsAt order t j b)
    ⊎ ((t ≡ length order) × (j ≡ p) × (b ≡ suc (occurrences order p)))
stands_push order p t j b stands = elim (found_in_push order p t j stands.0) [
  | inl old ↦
      let within : t < length order = slice_get_within order t j old in
      let number = rw (begins order p t (omega (arith, within))) at stands.1 in
      inl (within, (old, number))
  | inr new ↦
      let number : occurrences order p + 1 ≡ b =
      rw (sym new.0, whole_begins order p, sym new.1) at stands.1 in
      inr (sym new.0, sym new.1, omega (arith, number))
]

module _ (logs : List Log) (column : ℕ → ℕ → ℕ)
    (own : (i a b : ℕ) → IsEvent logs i b → 1 ≤ a → a < b → column i a < column i b)
    (first : (i a : ℕ) → IsEvent logs i a → 1 ≤ column i a) where
  module _ (now p : ℕ) (order : List ℕ) (here : p < length logs) (to : IsPlayedTo logs column now p order) where
    -- the node's next event isn't at this column
    pub played_over : (IsEvent logs p (suc (occurrences order p)) → column p (suc (occurrences order p)) ≢ now)
        → IsPlayedTo logs column now (suc p) order
    played_over other = record {
      places = to.places;
      within = to.within;
      there = λ i a is less. elim (cases_eq i p) [
        | inr ne ↦ to.there i a is (omega (arith, less, ne))
        | inl same ↦
            let ahead = to.ahead i a is (omega (arith, same)) in (
              λ held. omega (arith, ahead.0 held),
              λ low. elim (cases_lt (occurrences order i) a) [
                | inr held ↦ held
                | inl past ↦
                    let next : IsEvent logs i (suc (occurrences order i)) = record {
                      place = is.place;
                      first = omega arith;
                      within = omega (arith, past, is.within);
                    } in
                    let not_less : now ≤ column i (suc (occurrences order i)) =
                    elim (cases_lt (column i (suc (occurrences order i))) now) [
                      | inr fine ↦ fine
                      | inl less ↦ absurd (omega (
                        arith,
                        (to.ahead i (suc (occurrences order i)) next (omega (arith, same))).1 less,
                      ))
                    ] in
                    let not_now : column i (suc (occurrences order i)) ≢ now = rw same (other (rw same at next)) in
                    elim (cases_eq (suc (occurrences order i)) a) [
                      | inl top ↦ absurd (omega (arith, not_less, not_now, low, ap (column i) top))
                      | inr below ↦ absurd (omega (
                        arith,
                        not_less,
                        low,
                        own i (suc (occurrences order i)) a is (omega arith) (omega (arith, past, below)),
                      ))
                    ]
              ],
            )
      ];
      ahead = λ i a is l. to.ahead i a is (omega (arith, l));
      closed = to.closed;
    }

    -- or it is, and comes now
    pub played_push : IsEvent logs p (suc (occurrences order p)) → column p (suc (occurrences order p)) ≡ now
        → IsPlayedTo logs column now (suc p) (order ++ p ∷ [])
    played_push next now_is =
        let same = occurrences_push_same order p in
        let others = λ (i : ℕ) (ne : p ≢ i). occurrences_push_other order p i ne in
        record {
          places = All-push (λ p. p < length logs) order p to.places here;
          within = λ i l. elim (cases_eq p i) [
            | inl e ↦ rw (← e) (omega (arith, same, next.within))
            | inr ne ↦ omega (arith, others i ne, to.within i l)
          ];
          there = λ i a is less. elim (cases_eq p i) [
            | inr ne ↦ rw (others i ne) (to.there i a is (omega (arith, less, ne)))
            | inl e ↦ subst (λ (k : ℕ). (a ≤ occurrences (order ++ p ∷ []) k) ↔ (column k a ≤ now)) e (
              λ held. elim (cases_eq a (suc (occurrences order p))) [
                | inl top ↦ rw top (omega (arith, now_is))
                | inr low ↦
                    let is_p : IsEvent logs p a = subst (λ (k : ℕ). IsEvent logs k a) (sym e) is in
                    omega (arith, (to.ahead p a is_p (omega arith)).0 (omega (arith, held, low, same)))
              ],
              λ low. elim (cases_lt (suc (occurrences order p)) a) [
                | inr held ↦ omega (arith, held, same)
                | inl past ↦
                    let is_p : IsEvent logs p a = subst (λ (k : ℕ). IsEvent logs k a) (sym e) is in
                    absurd (omega (
                      arith,
                      low,
                      now_is,
                      own p (suc (occurrences order p)) a is_p (omega arith) past,
                    ))
              ],
            )
          ];
          ahead = λ i a is l.
              let ne : p ≢ i = omega arith in
              rw (others i ne) (to.ahead i a is (omega (arith, l)));
          closed = λ t j b i a stands is less. elim (stands_push order p t j b stands) [
            | inl old ↦ rw (begins order p t (omega (arith, old.0))) (to.closed t j b i a old.1 is less)
            | inr new ↦
                let less_now : column i a < now = omega (
                  arith,
                  less,
                  now_is,
                  ap (λ (k : ℕ). column k b) new.1,
                  ap (column p) new.2,
                ) in
                rw (new.0, whole_begins order p) (elim (cases_lt i p) [
                  | inl before ↦ (to.there i a is before).1 (omega (arith, less_now))
                  | inr after ↦ (to.ahead i a is after).1 less_now
                ])
          ];
        }

  pub all_played : (last : ℕ) (order : List ℕ) → ((i a : ℕ) → IsEvent logs i a → column i a ≤ last)
      → IsPlayedTo logs column (suc last) 0 order → IsPlayed logs column order
  all_played last order bound to = record {
    places = to.places;
    whole = λ i l. elim (cases_lt (occurrences order i) (length (log_of logs i))) [
      | inr full ↦ omega (arith, full, to.within i l)
      | inl short ↦
          let is : IsEvent logs i (length (log_of logs i)) =
          record { place = l; first = omega (arith, short); within = omega arith } in
          omega (
            arith,
            short,
            (to.ahead i (length (log_of logs i)) is (omega arith)).1
                (omega (arith, bound i (length (log_of logs i)) is)),
          )
    ];
    rising = λ s t i a j b here there less. elim (cases_lt s t) [
      | inl fine ↦ fine
      | inr late ↦ absurd (omega (
        arith,
        here.1,
        occurrences_mono order t s i late,
        to.closed t j b i a there (event_of logs order s i a to.places to.within here) less,
      ))
    ];
  }

pub columns_up_to : (logs : List Log) (cut : List ℕ) (columns : Columns) (last : ℕ) → AreColumnsOf logs cut columns
    → IsLastColumn columns.nodes last → (i a : ℕ) → IsEvent logs i a → column_of columns i a ≤ last
columns_up_to logs cut columns last are is i a event =
    is.bound i (slice_index_or columns.nodes i [])
    (slice_get-get_or columns.nodes i [] (omega (arith, event.place, are.places))) (a - 1) (column_of columns i a)
    (slice_get-get_or (slice_index_or columns.nodes i []) (a - 1) 0
    (omega (arith, event.first, event.within, are.events i event.place)))

-- where there is a column, there is an event
pub event_there : (logs : List Log) (cut : List ℕ) (columns : Columns) → AreColumnsOf logs cut columns → (i a : ℕ)
    → i < length logs → 1 ≤ a → 1 ≤ column_of columns i a → IsEvent logs i a
event_there logs cut columns are i a place first some = record {
  place = place;
  first = first;
  within = elim (cases_lt (length (log_of logs i)) a) [
    | inr fine ↦ fine
    | inl past ↦ absurd (omega (
      arith,
      some,
      get_or_past (slice_index_or columns.nodes i []) (a - 1) 0 (omega (arith, are.events i place, past)),
    ))
  ];
}

-- what is read of a list of numbers
pub number_read : (xs : List ℕ) (j k v : ℕ) → j ≡ k → k < length xs → v ≡ get_or xs j v → v ≡ get_or xs k 0
number_read xs j k v same within is =
    is ∙ ap (λ (i : ℕ). get_or xs i v) same ∙ get_or_default_zero xs k v within

-- the counts after one event more
pub done_push : (xs order : List ℕ) (n p node v : ℕ) → length xs ≡ n → p < n
    → ((j : ℕ) → j < n → get_or xs j 0 ≡ occurrences order j) → node ≡ p → v ≡ get_or xs p 0 → (j : ℕ) → j < n
    → get_or (set xs node (v + 1)) j 0 ≡ occurrences (order ++ p ∷ []) j
done_push xs order n p node v long here is same v_is j l =
    ap (λ (k : ℕ). get_or (set xs k (v + 1)) j 0) same
    ∙ ap (λ (x : ℕ). get_or (set xs p (x + 1)) j 0) v_is
    ∙ raised xs (occurrences order) (occurrences (order ++ p ∷ [])) n p 1 long here is (occurrences_push_same order p)
    (λ k ne. occurrences_push_other order p k ne) j l
