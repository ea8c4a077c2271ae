-- Columns rise with what happens, so the events up to a column are a consistent cut, and an order by columns is one.
use Rattle.std.proofs.Common.{◌≡◌, ℕ, zero, suc, ◌+◌, ◌<◌, ◌≤◌, ◌↔◌, inl, inr, List, length, ap, arith, get_or}
use Rattle.std.specs.Prelude.{All, slice_index}
use Rattle.std.proofs.lemmas.Bool.{cases_eq, cases_lt}
use Rattle.std.proofs.lemmas.List.Elements.{All-get_or}
use Rattle.std.proofs.lemmas.Option.{get_or_from_slice_get, slice_get_within}
use Rattle.ira_event.specs.Log.{Log}
use Rattle.ira_order.specs.Before.{Before, own, message, onward}
use Rattle.ira_order.specs.Circle.{HasOrder}
use Rattle.ira_order.specs.Cut.{IsConsistentCut}
use Rattle.ira_order.specs.Order.{IsOrder, StandsAt, occurrences}
use Rattle.ira_order.specs.Ring.{log_of}
use Rattle.ira_order.proofs.Acyclic.{before_within}
use Rattle.ira_order.proofs.Bridge.{before_places}
use Rattle.ira_order.proofs.HasCounts.{list_of}
use Rattle.ira_order.proofs.Ranks.{occurrences_same, occurrences-take-le}
use Rattle.ira_view_trail.specs.Columns.{AreColumns, IsEvent}
use Rattle.ira_view_trail.specs.Trail.{CutIsFirst, IsPlayed}

-- both are events
pub before_events : (logs : List Log) (i a j b : ℕ) → Before logs i a j b → IsEvent logs i a × IsEvent logs j b
before_events logs i a j b h =
    let places = before_places logs i a j b h in
    let within = before_within logs i a j b h in (
      record { place = places.0; first = within.0; within = within.1 },
      record { place = places.1; first = within.2; within = within.3 },
    )

module _ (logs : List Log) (cut : List ℕ) (column : ℕ → ℕ → ℕ) (line : ℕ) (are : AreColumns logs cut column line)
    (has : HasOrder logs) where
  pub columns_less : (i a j b : ℕ) → Before logs i a j b → column i a < column j b
  columns_less i a j b (own same place first less within) =
      let rise : column i a < column i b =
      are.own i a b (record { place = place; first = omega (arith, first, less); within = within }) first less in
      omega (arith, rise, ap (λ (x : ℕ). column x b) same)
  columns_less i a j b (message link pair) =
      omega (arith, are.received has i a b pair, ap (λ (x : ℕ). column x b) link)
  columns_less i a j b (onward {j = x} {b = y} first second) =
      omega (arith, columns_less i a x y first, columns_less x y j b second)

  -- how many events of node i are up to column k
  abbrev IsLeft : ℕ → ℕ → ℕ → ℕ → Type 0
  IsLeft k i n m = (m ≤ n) × ((a : ℕ) → 1 ≤ a → a ≤ n → (a ≤ m) ↔ (column i a ≤ k))

  left_of : (k i n : ℕ) → i < length logs → n ≤ length (log_of logs i) → (m : ℕ) × IsLeft k i n m
  left_of k i zero place few = (zero, (omega arith, λ a first up. absurd (omega arith)))
  left_of k i (suc n) place few =
      let event : IsEvent logs i (suc n) = record { place = place; first = omega arith; within = few } in
      elim (cases_lt k (column i (suc n))) [
        | inr low ↦ (
          suc n,
          (
            omega arith,
            λ a first up. (
              λ held. elim (cases_eq a (suc n)) [
                | inl top ↦ rw top low
                | inr below ↦ omega (arith, low, are.own i a (suc n) event first (omega arith))
              ],
              λ less. up,
            ),
          ),
        )
        | inl high ↦
            let m = left_of k i n place (omega arith) in (
              m.0,
              (
                omega (arith, m.1.0),
                λ a first up. elim (cases_eq a (suc n)) [
                  | inl top ↦ (
                    λ held. absurd (omega (arith, m.1.0)),
                    λ low. absurd (let low' : column i (suc n) ≤ k = rw top at low in omega (arith, high)),
                  )
                  | inr below ↦ m.1.1 a first (omega arith)
                ],
              ),
            )
      ]

  pub line_cut : (k : ℕ) → (left : List ℕ) × IsConsistentCut logs left
      × ((i a : ℕ) → IsEvent logs i a → (a ≤ slice_index left i) ↔ (column i a ≤ k))
  line_cut k =
      let left = list_of (λ i m. IsLeft k i (length (log_of logs i)) m) (length logs) (λ i place.
      left_of k i (length (log_of logs i)) place (omega arith)) in (
        left.0,
        (
          record { places = left.1; within = λ i place. omega (arith, (left.2 i place).0) },
          λ i a j b h held.
              let events = before_events logs i a j b h in
              let low = ((left.2 j events.1.place).1 b events.1.first events.1.within).0 held in
              ((left.2 i events.0.place).1 a events.0.first events.0.within).1
              (omega (arith, low, columns_less i a j b h)),
        ),
        λ i a event. (left.2 i event.place).1 a event.first event.within,
      )

  pub played_order : (order : List ℕ) → IsPlayed logs column order → IsOrder logs order
  played_order order played = record {
    places = played.places;
    whole = played.whole;
    after = λ i a b s t pair here there.
        played.rising s t i a _ b here there (are.received has i a b pair);
  }

-- what stands in an order is an event
pub event_of : (logs : List Log) (order : List ℕ) (t i a : ℕ) → All (λ p. p < length logs) order
    → ((i : ℕ) → i < length logs → occurrences order i ≤ length (log_of logs i)) → StandsAt order t i a
    → IsEvent logs i a
event_of logs order t i a places within stands =
    let here : t < length order = slice_get_within order t i stands.0 in
    let is : get_or order t 0 ≡ i = get_or_from_slice_get order t i 0 stands.0 in
    let place : i < length logs = rw is at (All-get_or (λ p. p < length logs) order t 0 here places) in
    record {
      place = place;
      first = omega (arith, stands.1);
      within = omega (
        arith,
        stands.1,
        occurrences_same order t i here is,
        occurrences-take-le order (t + 1) i,
        within i place,
      );
    }

-- an event of the cut stands before one that isn't
pub cut_first : (logs : List Log) (cut : List ℕ) (column : ℕ → ℕ → ℕ) (line : ℕ) (order : List ℕ)
    → AreColumns logs cut column line → IsPlayed logs column order → CutIsFirst cut order
cut_first logs cut column line order are played s t i a j b here there held past =
    played.rising s t i a j b here there (omega (
      arith,
      are.inside i a (event_of logs order s i a played.places (λ k l. omega (arith, played.whole k l)) here) held,
      are.outside j b (event_of logs order t j b played.places (λ k l. omega (arith, played.whole k l)) there) past,
    ))
