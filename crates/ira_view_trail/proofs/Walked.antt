-- A trail with one step more.
use Rattle.std.proofs.Common.{◌≡◌, ◌≢◌, ℕ, suc, ◌+◌, ◌*◌, ◌<◌, ◌≤◌, ◌⊎◌, ◌↔◌, inl, inr, IsTrue, Some, List, [], ◌∷◌, ◌++◌}
use Rattle.std.proofs.Common.{length, length-set, take, set, sym, ◌∙◌, ap, subst, arith, get_or}
use Rattle.std.proofs.Common.{get_or-set_other, get_or-set_same, map, replicate}
use Rattle.std.specs.Option.{option_map}
use Rattle.std.specs.Prelude.{slice_get, slice_index}
use Rattle.std.proofs.lemmas.Bool.{cases_eq}
use Rattle.std.proofs.lemmas.List.{get_or-replicate, length-map, length-replicate, length-take-le, map-append, take_all, take_more}
use Rattle.std.proofs.lemmas.Option.{get_or_from_slice_get, same_Some, slice_get-get_or, slice_get-map, slice_get_within}
use Rattle.ira_event.specs.Limits.{MAX_NODES, MAX_RECORDS}
use Rattle.ira_event.specs.Log.{Log}
use Rattle.ira_event.specs.Logs.{AreLogs}
use Rattle.ira_node.specs.NodeState.{first_state}
use Rattle.ira_node.specs.declared.node_state.NodeState.{NodeState}
use Rattle.ira_order.specs.Order.{StandsAt, occurrences}
use Rattle.ira_order.proofs.Pushed.{found_in_push}
use Rattle.ira_order.proofs.Ranks.{occurrences_other, occurrences_same}
use Rattle.ira_replay.specs.LocalRun.{IsLocalRun}
use Rattle.ira_view_trail.specs.declared.trail_step.TrailStep.{TrailStep}
use Rattle.ira_view_trail.specs.Columns.{AreColumnsOf, IsEvent, column_of}
use Rattle.ira_view_trail.specs.StateTrail.{HasWalked, Reaches, StateTrail}
use Rattle.ira_view_trail.specs.Trail.{IsPlayed, IsTrail, TellsEvent, places_of}
use Rattle.ira_view_trail.proofs.Few.{few_in_order}
use Rattle.ira_view_trail.proofs.Lines.{event_of}

found_in_set : {X : Type 0} (xs : List X) (i : ℕ) (x : X) (k : ℕ) (y : X) → slice_get (set xs i x) k ≡ Some y
    → ((k ≢ i) × (slice_get xs k ≡ Some y)) ⊎ ((k ≡ i) × (x ≡ y))
found_in_set xs i x k y at =
    let within : k < length xs = omega (arith, slice_get_within (set xs i x) k y at, length-set xs i x) in
    elim (cases_eq k i) [
      | inr ne ↦ inl (
        ne,
        slice_get-get_or xs k y within
            ∙ ap Some (sym (get_or-set_other xs i k x y ne) ∙ get_or_from_slice_get (set xs i x) k y y at),
      )
      | inl e ↦
          let here : i < length xs = omega (arith, e, within) in
          let at_i : slice_get (set xs i x) i ≡ Some y = rw e at at in
          inr (e, sym (get_or-set_same xs i x y here) ∙ get_or_from_slice_get (set xs i x) i y y at_i)
    ]

-- the trail after a step of the node at this place
abbrev pub walked_on : StateTrail → ℕ → ℕ → NodeState → StateTrail
walked_on w node number state = record {
  logs = w.logs;
  cut = w.cut;
  columns = w.columns;
  order = w.order;
  given = w.given + 1;
  done = set w.done node number;
  states = set w.states node state;
}

module _ (w : StateTrail) (given : List TrailStep) (has : HasWalked w given) where
  pub many_given : length given ≡ w.given
  many_given = omega (
    arith,
    ap (λ (xs : List ℕ). length xs) has.steps_are,
    length-map given (λ (step : TrailStep). step.place),
    length-take-le w.given w.order (omega (arith, has.few)),
  )

  pub few_given : w.given ≤ MAX_NODES * MAX_RECORDS
  few_given =
      omega (
        arith,
        has.few,
        few_in_order w.logs w.order has.logs_are has.played.places (λ i l. omega (arith, has.played.whole i l)),
      )

  pub next_place : (place : ℕ) → slice_get w.order w.given ≡ Some place → place < length w.logs
  next_place place at =
      (event_of w.logs w.order w.given place (suc (occurrences (take w.given w.order) place)) has.played.places
      (λ i l. omega (arith, has.played.whole i l)) (at, omega arith)).place

  -- what stands next
  pub next_stands : (place number : ℕ) → slice_get w.order w.given ≡ Some place → number ≡ slice_index w.done place + 1
      → StandsAt w.order w.given place number
  next_stands place number at is =
      (at, omega (arith, is, has.done place (next_place place at)))

  pub next_event : (place number : ℕ) → StandsAt w.order w.given place number → IsEvent w.logs place number
  next_event place number stands =
      event_of w.logs w.order w.given place number has.played.places (λ i l. omega (arith, has.played.whole i l)) stands

  module _ (x : TrailStep) (node : ℕ) (state : NodeState)
      (node_is : node ≡ x.place)
      (stands : StandsAt w.order w.given x.place x.event)
      (column : x.column ≡ column_of w.columns x.place x.event)
      (in_cut : IsTrue x.in_cut ↔ (x.event ≤ slice_index w.cut x.place))
      (reaches : (log : Log) → slice_get w.logs x.place ≡ Some log → IsLocalRun log → Reaches log x.event state) where
    within : w.given < length w.order
    within = slice_get_within w.order w.given x.place stands.0

    is_place : get_or w.order w.given 0 ≡ x.place
    is_place = get_or_from_slice_get w.order w.given x.place 0 stands.0

    counted : occurrences (take (w.given + 1) w.order) x.place ≡ x.event
    counted = occurrences_same w.order w.given x.place within is_place ∙ stands.1

    elsewhere : (i : ℕ) → i ≢ x.place
        → occurrences (take (w.given + 1) w.order) i ≡ occurrences (take w.given w.order) i
    elsewhere i ne = occurrences_other w.order w.given i within (λ q. ne (sym q ∙ is_place))

    pub walked_push : HasWalked (walked_on w node x.event state) (given ++ x ∷ [])
    walked_push = record {
      logs_are = has.logs_are;
      cut_is = has.cut_is;
      columns_are = has.columns_are;
      played = has.played;
      few = omega (arith, within);
      steps_are = map-append (λ (step : TrailStep). step.place) given (x ∷ [])
          ∙ ap (λ (xs : List ℕ). xs ++ x.place ∷ []) has.steps_are
          ∙ ap (λ (p : ℕ). take w.given w.order ++ p ∷ []) (sym is_place)
          ∙ sym (take_more w.order w.given 0 within);
      each = λ t step at. elim (found_in_push given x t step at) [
        | inl old ↦ has.each t step old
        | inr new ↦
            let here : w.given ≡ t = omega (arith, new.0, many_given) in
            subst (TellsEvent w.cut w.columns w.order t) new.1
            (subst (λ (k : ℕ). TellsEvent w.cut w.columns w.order k x) here
            (record { event = stands; column = column; in_cut = in_cut }))
      ];
      nodes = length-set w.done node x.event ∙ has.nodes;
      done = λ i l. elim (cases_eq i node) [
        | inl same ↦
            let room : i < length w.done = omega (arith, l, has.nodes) in
            ap (λ (k : ℕ). slice_index (set w.done k x.event) i) (sym same)
            ∙ get_or-set_same w.done i x.event 0 room
            ∙ sym (ap (occurrences (take (w.given + 1) w.order)) (same ∙ node_is) ∙ counted)
        | inr ne ↦
            get_or-set_other w.done node i x.event 0 ne ∙ has.done i l
            ∙ sym (elsewhere i (λ q. ne (q ∙ sym node_is)))
      ];
      places = length-set w.states node state ∙ has.places;
      states = λ i log s at_log at_state local. elim (found_in_set w.states node state i s at_state) [
        | inl old ↦ subst (λ (n : ℕ). Reaches log n s) (sym (elsewhere i (λ q. old.0 (q ∙ sym node_is))))
            (has.states i log s at_log old.1 local)
        | inr new ↦
            let at : slice_get w.logs x.place ≡ Some log =
            ap (slice_get w.logs) (sym (new.0 ∙ node_is)) ∙ at_log in
            let count : x.event ≡ occurrences (take (w.given + 1) w.order) i =
            sym (ap (occurrences (take (w.given + 1) w.order)) (new.0 ∙ node_is) ∙ counted) in
            subst (λ (n : ℕ). Reaches log n s) count
            (subst (λ (z : NodeState). Reaches log x.event z) new.1 (reaches log at local))
      ];
    }

  -- all have come
  pub walked_all : length w.order ≤ w.given → IsTrail w.logs w.cut given
  walked_all over =
      let all : places_of given ≡ w.order = has.steps_are ∙ take_all w.given w.order over in
      record {
        columns = w.columns;
        columns_are = has.columns_are;
        played = rw all has.played;
        each = λ t step at. rw all (has.each t step at);
      }

-- before the first step
pub walked_none : (w : StateTrail) (cut : List ℕ) → AreLogs w.logs → w.cut ≡ cut → length cut ≡ length w.logs
    → AreColumnsOf w.logs cut w.columns → IsPlayed w.logs (column_of w.columns) w.order → w.given ≡ 0
    → w.done ≡ replicate (length w.logs) 0 → w.states ≡ map (λ log. first_state log.initiator) w.logs → HasWalked w []
walked_none w cut are cut_is long columns played zero done states =
    let none : (i : ℕ) → occurrences (take w.given w.order) i ≡ 0 =
    λ i. ap (λ (n : ℕ). occurrences (take n w.order) i) zero in
    let first : Log → NodeState = λ log. first_state log.initiator in
    record {
      logs_are = are;
      cut_is = ap (λ (xs : List ℕ). length xs) cut_is ∙ long;
      columns_are = subst (λ (x : List ℕ). AreColumnsOf w.logs x w.columns) (sym cut_is) columns;
      played = played;
      few = omega (arith, zero);
      steps_are = sym (ap (λ (n : ℕ). take n w.order) zero);
      each = λ t step at. absurd (let z : ⊥ = cc in z);
      nodes = ap (λ (xs : List ℕ). length xs) done ∙ length-replicate (length w.logs) 0;
      done = λ i l. ap (λ (xs : List ℕ). slice_index xs i) done ∙ get_or-replicate (length w.logs) i 0 0 l
          ∙ sym (none i);
      places = ap (λ (xs : List NodeState). length xs) states ∙ length-map w.logs first;
      states = λ i log s at_log at_s local.
          let is : Some s ≡ Some (first_state log.initiator) =
          sym at_s ∙ ap (λ (xs : List NodeState). slice_get xs i) states ∙ slice_get-map first w.logs i
          ∙ ap (option_map first) at_log in
          subst (λ (n : ℕ). Reaches log n s) (sym (none i)) (same_Some s (first_state log.initiator) is);
    }
