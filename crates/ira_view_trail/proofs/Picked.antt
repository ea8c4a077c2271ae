-- The columns of what a node sends or receives, event by event.
use Rattle.std.proofs.Common.{◌≡◌, ℕ, ◌+◌, ◌<◌, inl, inr, Option, Some, None, List, [], ◌∷◌, ◌++◌, length, take}
use Rattle.std.proofs.Common.{Bool, false, true, ap, arith, refl, ◌∙◌, sym}
use Rattle.std.specs.Prelude.{is_some, slice_get, slice_index}
use Rattle.std.specs.List.{cons_option, filter_map}
use Rattle.std.proofs.lemmas.Bool.{cases_eq}
use Rattle.std.proofs.lemmas.List.{get_or_append_left, get_or_push, length_push}
use Rattle.ira_event.specs.declared.event.Event.{Event}
use Rattle.ira_event.specs.declared.load.Load.{Load}
use Rattle.ira_order.proofs.OrderPrefixes.{counted_more}
use Rattle.ira_order.proofs.Ranks.{rank_mono}
use Rattle.ira_view_trail.specs.Right.{HasPicked}

one_more : (h : Event → Option Load) (events : List Event) (n : ℕ) (e : Event) (m : Load) → slice_get events n ≡ Some e
    → h e ≡ Some m → length (filter_map h (take (n + 1) events)) ≡ length (filter_map h (take n events)) + 1
one_more h events n e m at is =
    counted_more h events n e at
    ∙ ap (λ (o : Option Load). length (filter_map h (take n events)) + length (cons_option o [])) is

none_of : (o : Option Load) → is_some o ≡ false → o ≡ None
none_of None e = refl
none_of (Some m) e = (let z : true ≡ false = e in cc)

some_of : (o : Option Load) → is_some o ≡ true → (m : Load) × (o ≡ Some m)
some_of None e = absurd (let z : false ≡ true = e in cc)
some_of (Some m) e = (m, refl)

module _ (h : Event → Option Load) (events : List Event) (row : List ℕ) (n : ℕ) (e : Event) (picked : List ℕ)
    (at : slice_get events n ≡ Some e)
    (has : HasPicked h events row n picked) where
  pub picked_over : h e ≡ None → HasPicked h events row (n + 1) picked
  picked_over none = record {
    count = has.count ∙ sym (counted_more h events n e at
        ∙ ap (λ (o : Option Load). length (filter_map h (take n events)) + length (cons_option o [])) none
        ∙ omega arith);
    each = λ a x m less at_a is. elim (cases_eq a n) [
      | inr ne ↦ has.each a x m (omega (arith, less, ne)) at_a is
      | inl same ↦
          let one : Some e ≡ Some x = sym at ∙ ap (slice_get events) (sym same) ∙ at_a in
          let e_is : e ≡ x = cc in
          let z : None ≡ Some m = sym none ∙ ap h e_is ∙ is in
          absurd cc
    ];
  }

  pub picked_push : (m : Load) → h e ≡ Some m → HasPicked h events row (n + 1) (picked ++ slice_index row n ∷ [])
  picked_push m some = record {
    count = omega (arith, length_push picked (slice_index row n), has.count, one_more h events n e m at some);
    each = λ a x m_a less at_a is. elim (cases_eq a n) [
      | inr ne ↦
          let low : length (filter_map h (take a events)) < length picked =
          omega (
            arith,
            has.count,
            one_more h events a x m_a at_a is,
            rank_mono h events (a + 1) n (omega (arith, less, ne)),
          ) in
          get_or_append_left picked (slice_index row n ∷ []) 0 (length (filter_map h (take a events))) low
          ∙ has.each a x m_a (omega (arith, less, ne)) at_a is
      | inl same ↦
          let last : length (filter_map h (take a events)) ≡ length picked =
          ap (λ (k : ℕ). length (filter_map h (take k events))) same ∙ sym has.count in
          get_or_push picked (slice_index row n) 0 (length (filter_map h (take a events))) (sym last)
          ∙ ap (slice_index row) (sym same)
    ];
  }

  -- what a test of the event's kind says
  pub picked_skip : (b : Bool) → b ≡ is_some (h e) → b ≡ false → HasPicked h events row (n + 1) picked
  picked_skip b is off = picked_over (none_of (h e) (sym is ∙ off))

  pub picked_take : (b : Bool) → b ≡ is_some (h e) → b ≡ true
      → HasPicked h events row (n + 1) (picked ++ slice_index row n ∷ [])
  picked_take b is on = (let m = some_of (h e) (sym is ∙ on) in picked_push m.0 m.1)
