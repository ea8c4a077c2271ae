-- Each order of matched logs that are local runs is a run of the ring.
use Rattle.std.proofs.Common.{◌≡◌, ◌≢◌, ℕ, zero, suc, ◌+◌, ◌<◌, ◌≤◌, ◌⊎◌, inl, inr, List, [], ◌∷◌, ◌++◌, length, refl}
use Rattle.std.proofs.Common.{sym, ◌∙◌, ap, arith, get_or, take, drop, Option, Some, None, add-one, append-nil}
use Rattle.std.proofs.Common.{length-append}
use Rattle.std.specs.Prelude.{slice_get}
use Rattle.std.specs.List.{cons_option, filter_map}
use Rattle.ira_event.specs.declared.event.Event.{Event}
use Rattle.ira_event.specs.declared.load.Load.{Load}
use Rattle.ira_event.specs.Log.{Log}
use Rattle.ira_event.specs.declared.event.Event.TheVariants.{Sent, Got, Draw, Yield}
use Rattle.ira_order.specs.Ring.{log_of, next, prev, numbered}
use Rattle.ira_order.specs.Matching.{sent, got, sending, receipt, Matches}
use Rattle.ira_order.specs.Order.{occurrences}
use Rattle.ira_order.specs.Counts.{Covers, IsWholeSchedule}
use Rattle.ira_order.specs.Run.{Configuration, LinkStep, RingStep, Chains}
use Rattle.ira_order.proofs.Ranks.{filter_map_more, filter_map_split, occurrences_same, occurrences_other, next_other}
use Rattle.std.proofs.lemmas.Bool.{cases_lt, cases_eq}
use Rattle.ira_order.proofs.Pairing.{numbered-append, numbered-after}
use Rattle.ira_node.specs.declared.node_state.NodeState.{NodeState}
use Rattle.ira_node.specs.NodeStep.{NodeStep}
use Rattle.std.proofs.lemmas.Bool.Decides.{nat_tests}
use Rattle.std.proofs.lemmas.Option.{slice_get-get_or, get_or_from_slice_get, slice_get_within}
use Rattle.std.proofs.lemmas.List.{drop_all, drop_more, drop-append-le, take-append-drop}
use Rattle.std.proofs.lemmas.List.Elements.{filter_map-append}

pub next_prev : (n i : ℕ) → i < n → next n (prev n i) ≡ i
next_prev n zero l = grind (arith, nat_tests)
next_prev n (suc i) l = grind (arith, nat_tests)

pub prev_next : (n i k : ℕ) → i < n → k < n → next n k ≡ i → k ≡ prev n i
prev_next n zero k l lk e = grind (arith, nat_tests)
prev_next n (suc i) k l lk e = grind (arith, nat_tests)

pub prev_below : (n i : ℕ) → i < n → prev n i < n
prev_below n zero l = omega arith
prev_below n (suc i) l = omega arith

pub next_up : (n j : ℕ) → j + 1 < n → next n j ≡ j + 1
next_up n j more = grind (arith, nat_tests)

-- that of event a stands after those of the events before it
pub load_at : (load : Event → Option Load) (es : List Event) (a : ℕ) (e : Event) (l : Load) → slice_get es a ≡ Some e
    → load e ≡ Some l → numbered (filter_map load es) (suc (length (filter_map load (take a es)))) ≡ Some l
load_at load es a e l at is =
    let first = filter_map load (take a es) in
    let rest = filter_map load (drop (a + 1) es) in
    let here : get_or es a e ≡ e = get_or_from_slice_get es a e e at in
    let parts : filter_map load es ≡ first ++ l ∷ rest =
    filter_map_split load es a e (slice_get_within es a e at)
    ∙ ap (λ x. first ++ cons_option x rest) (ap load here ∙ is) in
    ap (λ x. numbered x (suc (length first))) parts ∙ numbered-after first rest l

-- those of the first a events have the same numbers among all
pub load_before : (load : Event → Option Load) (es : List Event) (a k : ℕ) → k ≤ length (filter_map load (take a es))
    → numbered (filter_map load es) k ≡ numbered (filter_map load (take a es)) k
load_before load es a k low =
    let parts : filter_map load es ≡ filter_map load (take a es) ++ filter_map load (drop a es) =
    ap (filter_map load) (sym (take-append-drop a es)) ∙ filter_map-append load (take a es) (drop a es) in
    ap (λ x. numbered x k) parts ∙ numbered-append (filter_map load (take a es)) (filter_map load (drop a es)) k low

-- the messages that link k holds when the nodes have made (at j) events each
abbrev pub on_link : List Log → (ℕ → ℕ) → ℕ → List Load
on_link logs at k = drop (length (got (take (at (next (length logs) k)) (log_of logs (next (length logs) k)))))
    (sent (take (at k) (log_of logs k)))

module _ (logs : List Log) (at at' : ℕ → ℕ) (i : ℕ) (e : Event)
    (two : 2 ≤ length logs)
    (here : i < length logs)
    (is : slice_get (log_of logs i) (at i) ≡ Some e)
    (more : at' i ≡ at i + 1)
    (same : (j : ℕ) → j ≢ i → at' j ≡ at j) where
  within : at i < length (log_of logs i)
  within = slice_get_within (log_of logs i) (at i) e is

  the_event : get_or (log_of logs i) (at i) (Draw 0) ≡ e
  the_event = get_or_from_slice_get (log_of logs i) (at i) e (Draw 0) is

  loads_here : (h : Event → Option Load) → filter_map h (take (at' i) (log_of logs i))
      ≡ filter_map h (take (at i) (log_of logs i)) ++ cons_option (h e) []
  loads_here h = rw more (filter_map_more h (log_of logs i) (at i) (Draw 0) within
      ∙ ap (λ (x : Event). filter_map h (take (at i) (log_of logs i)) ++ cons_option (h x) []) the_event)

  -- those of another node, and of an event without such a load, stay the same
  loads_same : (h : Event → Option Load) (k : ℕ) → (k ≢ i) ⊎ (h e ≡ None)
      → filter_map h (take (at' k) (log_of logs k)) ≡ filter_map h (take (at k) (log_of logs k))
  loads_same h k (inl ne) = ap (λ (x : ℕ). filter_map h (take x (log_of logs k))) (same k ne)
  loads_same h k (inr quiet) = elim (cases_eq k i) [
    | inl e' ↦ rw e' (loads_here h
        ∙ ap (λ (x : Option Load). filter_map h (take (at i) (log_of logs i)) ++ cons_option x []) quiet ∙ append-nil _)
    | inr ne ↦ ap (λ (x : ℕ). filter_map h (take x (log_of logs k))) (same k ne)
  ]

  got_same : (j : ℕ) → (j ≢ i) ⊎ (receipt e ≡ None)
      → length (got (take (at' j) (log_of logs j))) ≡ length (got (take (at j) (log_of logs j)))
  got_same j quiet = ap length (loads_same receipt j quiet)

  link_same : (k : ℕ) → (k ≢ i) ⊎ (sending e ≡ None) → (next (length logs) k ≢ i) ⊎ (receipt e ≡ None)
      → on_link logs at' k ≡ on_link logs at k
  link_same k s g = rw (loads_same sending k s, got_same (next (length logs) k) g) refl

  -- a sending puts its message last
  link_sent : (m : Load) → e ≡ Sent m → Covers logs at → on_link logs at' i ≡ on_link logs at i ++ m ∷ []
  link_sent m e_is covers =
      let s : sent (take (at' i) (log_of logs i)) ≡ sent (take (at i) (log_of logs i)) ++ m ∷ [] =
      loads_here sending ∙ ap (λ (x : Event). sent (take (at i) (log_of logs i)) ++ cons_option (sending x) []) e_is in
      rw (s, got_same (next (length logs) i) (inl (next_other (length logs) i two here)))
      (drop-append-le (length (got (take (at (next (length logs) i)) (log_of logs (next (length logs) i)))))
      (sent (take (at i) (log_of logs i))) (m ∷ []) (covers i here))

  -- a receipt takes the first message away
  link_got : (m : Load) (k : ℕ) → e ≡ Got m → k < length logs → next (length logs) k ≡ i → Matches logs
      → Covers logs at' → on_link logs at k ≡ m ∷ on_link logs at' k
  link_got m k e_is lk into matches covers =
      let ne : k ≢ i = λ q. next_other (length logs) k two lk (into ∙ sym q) in
      let g' : length (got (take (at' i) (log_of logs i))) ≡ length (got (take (at i) (log_of logs i))) + 1 =
      omega (
        arith,
        ap length (loads_here receipt ∙ ap (λ (x : Event). got (take (at i) (log_of logs i))
            ++ cons_option (receipt x) []) e_is),
        length-append (got (take (at i) (log_of logs i))) (m ∷ []),
      ) in
      let s : sent (take (at' k) (log_of logs k)) ≡ sent (take (at k) (log_of logs k)) = loads_same sending k (inl ne) in
      let room : length (got (take (at i) (log_of logs i))) < length (sent (take (at k) (log_of logs k))) =
      omega (arith, rw (into, s, g') at (covers k lk)) in
      let whole_got : got (log_of logs i) ≡ got (take (at i) (log_of logs i))
      ++ (m ∷ got (drop (at i + 1) (log_of logs i))) =
      filter_map_split receipt (log_of logs i) (at i) (Draw 0) within
      ∙ ap (λ (x : Event). got (take (at i) (log_of logs i))
      ++ cons_option (receipt x) (got (drop (at i + 1) (log_of logs i)))) (the_event ∙ e_is) in
      let taken : numbered (got (log_of logs i)) (suc (length (got (take (at i) (log_of logs i))))) ≡ Some m =
      ap (λ (x : List Load). numbered x (suc (length (got (take (at i) (log_of logs i)))))) whole_got
      ∙ numbered-after (got (take (at i) (log_of logs i))) (got (drop (at i + 1) (log_of logs i))) m in
      let put : numbered (sent (log_of logs k)) (suc (length (got (take (at i) (log_of logs i))))) ≡ Some m =
      matches k lk (suc (length (got (take (at i) (log_of logs i))))) m (rw into taken) in
      let whole_sent : sent (log_of logs k) ≡ sent (take (at k) (log_of logs k)) ++ sent (drop (at k) (log_of logs k)) =
      ap sent (sym (take-append-drop (at k) (log_of logs k)))
      ∙ filter_map-append sending (take (at k) (log_of logs k)) (drop (at k) (log_of logs k)) in
      let first : slice_get (sent (take (at k) (log_of logs k))) (length (got (take (at i) (log_of logs i)))) ≡ Some m =
      sym (numbered-append (sent (take (at k) (log_of logs k))) (sent (drop (at k) (log_of logs k)))
      (suc (length (got (take (at i) (log_of logs i))))) (omega arith))
      ∙ ap (λ (x : List Load). numbered x (suc (length (got (take (at i) (log_of logs i)))))) (sym whole_sent) ∙ put in
      let value : get_or (sent (take (at k) (log_of logs k))) (length (got (take (at i) (log_of logs i)))) m ≡ m =
      get_or_from_slice_get (sent (take (at k) (log_of logs k))) (length (got (take (at i) (log_of logs i)))) m m
      first in
      rw (into, s, g') (drop_more (sent (take (at k) (log_of logs k))) (length (got (take (at i) (log_of logs i)))) m
      room ∙ ap (λ (x : Load). x
      ∷ drop (length (got (take (at i) (log_of logs i))) + 1) (sent (take (at k) (log_of logs k)))) value)

  links : (e' : Event) → e ≡ e' → Matches logs → Covers logs at → Covers logs at'
      → LinkStep (length logs) i e' (on_link logs at) (on_link logs at')
  links (Sent m) e_is matches covers covers' = (
    link_sent m e_is covers,
    λ j lj ne. link_same j (inl ne) (inr (ap receipt e_is)),
  )
  links (Got m) e_is matches covers covers' = (
    link_got m (prev (length logs) i) e_is (prev_below (length logs) i here) (next_prev (length logs) i here) matches
        covers',
    λ j lj ne. link_same j (inr (ap sending e_is)) (inl (λ q. ne (prev_next (length logs) i j here lj q))),
  )
  links (Draw x) e_is matches covers covers' = λ j lj. link_same j (inr (ap sending e_is)) (inr (ap receipt e_is))
  links Yield e_is matches covers covers' = λ j lj. link_same j (inr (ap sending e_is)) (inr (ap receipt e_is))

pub cons_nil : (x : ℕ × Event) (r : List (ℕ × Event)) → x ∷ r ≡ [] → ⊥
cons_nil x r h = cc

-- the run has the order's places, and each entry is the event that its place means there
pub record Means (logs : List Log) (order : List ℕ) (run : List (ℕ × Event)) : Type 0 where
  pub many : length run ≡ length order
  pub each : (t i : ℕ) (e : Event) → slice_get run t ≡ Some (i, e) → (slice_get order t ≡ Some i)
      × (slice_get (log_of logs i) (occurrences (take t order) i) ≡ Some e)

module _ (logs : List Log) (order : List ℕ) (run : List (ℕ × Event)) (states : ℕ → ℕ → NodeState)
    (two : 2 ≤ length logs)
    (w : IsWholeSchedule logs order)
    (means : Means logs order run)
    (local : (i : ℕ) → i < length logs → (a : ℕ) (e : Event) → slice_get (log_of logs i) a ≡ Some e
    → NodeStep (length logs) (states i a) e (states i (suc a))) where
  config : (ℕ → ℕ) → Configuration
  config at = record { state = λ j. states j (at j); link = on_link logs at }

  ring_step : (t i : ℕ) (e : Event) → slice_get run t ≡ Some (i, e)
      → RingStep (length logs) i e (config (occurrences (take t order))) (config (occurrences (take (t + 1) order)))
  unfolding config
  ring_step t i e at =
      let m = means.each t i e at in
      let lt : t < length order = slice_get_within order t i m.0 in
      let at_t : get_or order t 0 ≡ i = get_or_from_slice_get order t i 0 m.0 in
      let here : i < length logs = rw at_t at (w.schedule.places t 0 lt) in
      let more : occurrences (take (t + 1) order) i ≡ occurrences (take t order) i + 1 =
      occurrences_same order t i lt at_t in
      let same : (j : ℕ) → j ≢ i → occurrences (take (t + 1) order) j ≡ occurrences (take t order) j =
      λ j ne. occurrences_other order t j lt (λ q. ne (sym q ∙ at_t)) in
      record {
        place = here;
        node = rw (more, add-one (occurrences (take t order) i)) (local i here (occurrences (take t order) i) e m.1);
        others = λ j lj ne. ap (states j) (same j ne);
        links = links logs (occurrences (take t order)) (occurrences (take (t + 1) order)) i e two here m.1 more same e
            refl w.matches (w.schedule.kept t (omega arith)) (w.schedule.kept (t + 1) (omega arith));
      }

  chains : (r : List (ℕ × Event)) (t : ℕ) → r ≡ drop t run
      → Chains (length logs) (config (occurrences (take t order))) r
  chains [] t is = tt
  chains (x ∷ r) t is = elim (cases_lt t (length run)) [
    | inr past ↦ (let none : drop t run ≡ [] = drop_all t run past in absurd (cons_nil x r (is ∙ none)))
    | inl here ↦
        let more : drop t run ≡ get_or run t x ∷ drop (t + 1) run = drop_more run t x here in
        let both : x ∷ r ≡ get_or run t x ∷ drop (t + 1) run = is ∙ more in
        let head : x ≡ get_or run t x = cc in
        let tail : r ≡ drop (t + 1) run = cc in
        let at : slice_get run t ≡ Some x = slice_get-get_or run t x here ∙ ap Some (sym head) in
        (config (occurrences (take (t + 1) order)), ring_step t x.0 x.1 at, chains r (t + 1) tail)
  ]

  -- the run that an order means chains from the opening configuration
  pub order_runs : Chains (length logs) (record { state = λ j. states j 0; link = λ j. [] }) run
  unfolding config
  order_runs = chains run 0 refl
