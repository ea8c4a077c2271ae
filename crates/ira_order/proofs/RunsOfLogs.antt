-- Runs of logs: what an order means, and what the places of a run are.
use Rattle.std.proofs.Common.{Ok, ◌≡◌, ◌≢◌, ℕ, zero, suc, ◌+◌, ◌<◌, ◌≤◌, inl, inr, List, [], ◌∷◌, length, refl, sym}
use Rattle.std.proofs.Common.{◌∙◌, ap, arith, get_or, take, drop, false, Option, Some, None, cond, ◌==◌, subst}
use Rattle.std.proofs.Common.{slice_get}
use Rattle.std.specs.List.{filter_map, cons_option}
use Rattle.std.specs.Prelude.{All}
use Rattle.ira_event.specs.declared.event.Event.{Event}
use Rattle.ira_event.specs.declared.event.Event.TheVariants.{Draw}
use Rattle.ira_event.specs.Log.{Log}
use Rattle.ira_event.specs.Logs.{AreLogs}
use Rattle.ira_node.specs.declared.node_state.NodeState.{NodeState}
use Rattle.ira_node.specs.NodeState.{first_state}
use Rattle.ira_node.specs.NodeStep.{NodeStep}
use Rattle.ira_replay.specs.declared.replay_fault.ReplayFault.{ReplayFault}
use Rattle.ira_replay.specs.LocalRun.{LeadsTo, IsFirstFault}
use Rattle.ira_replay.specs.StatesLeft.{replayed}
use Rattle.ira_replay.proofs.Along.{leads_exactly, stops_exactly}
use Rattle.ira_order.specs.declared.match_fault.MatchFault.{MatchFault}
use Rattle.ira_order.specs.MatchFault.{IsMatchFault}
use Rattle.ira_order.specs.Circle.{HasCircle}
use Rattle.ira_order.specs.RunsOfLogs.{EveryOrderIsRun, HaveNoRun}
use Rattle.ira_order.proofs.Faults.{unmatched}
use Rattle.ira_order.specs.Ring.{log_of, events_of}
use Rattle.ira_order.specs.Matching.{Matches}
use Rattle.ira_order.specs.Order.{occurrences, IsOrder}
use Rattle.ira_order.specs.Counts.{IsWhole, IsWholeSchedule}
use Rattle.ira_order.specs.Run.{Configuration, Chains, opening, is_initiator, event_of, IsRingRun, IsRunOfLogs}
use Rattle.ira_order.specs.Run.{AreLocalRuns, places_of}
use Rattle.ira_order.proofs.Cuts.{cons_same, cons_other}
use Rattle.ira_order.proofs.Bridge.{kept_order, order_schedule}
use Rattle.ira_order.proofs.Runs.{Means, order_runs}
use Rattle.ira_order.proofs.Converse.{run_kept, run_matches}
use Rattle.std.proofs.lemmas.Bool.{ne_eqb, eq-eqb, cases_eq}
use Rattle.std.proofs.lemmas.List.{take_all, drop_more, length-map}
use Rattle.std.specs.Option.{option_map}
use Rattle.std.proofs.lemmas.List.Elements.{All-nil, All-cons}
use Rattle.std.proofs.lemmas.Option.{get_or_from_slice_get, slice_get_within, slice_get-map}

-- ---- the events of one node

pub event_yes : (i j : ℕ) (e : Event) → i ≡ j → event_of j (i, e) ≡ Some e
event_yes i j e same = rw (eq-eqb i j same) refl

pub event_no : (i j : ℕ) (e : Event) → i ≢ j → event_of j (i, e) ≡ None
event_no i j e ne = rw (ne_eqb i j ne) refl

own_cons : (x : ℕ × Event) (run : List (ℕ × Event)) (i : ℕ) → x.0 ≡ i
    → filter_map (event_of i) (x ∷ run) ≡ x.1 ∷ filter_map (event_of i) run
own_cons x run i e = ap (λ (o : Option Event). cons_option o (filter_map (event_of i) run)) (event_yes x.0 i x.1 e)

other_cons : (x : ℕ × Event) (run : List (ℕ × Event)) (i : ℕ) → x.0 ≢ i
    → filter_map (event_of i) (x ∷ run) ≡ filter_map (event_of i) run
other_cons x run i e = ap (λ (o : Option Event). cons_option o (filter_map (event_of i) run)) (event_no x.0 i x.1 e)

-- a place stands as often as it has events
counted : (run : List (ℕ × Event)) (i : ℕ) → occurrences (places_of run) i ≡ length (filter_map (event_of i) run)
counted [] i = refl
counted (x ∷ run) i = elim (cases_eq x.0 i) [
  | inl e ↦ omega (arith, cons_same x.0 i (places_of run) e, counted run i, ap length (own_cons x run i e))
  | inr ne ↦ omega (arith, cons_other x.0 i (places_of run) ne, counted run i, ap length (other_cons x run i ne))
]

-- an entry is the event of its number
entry : (run : List (ℕ × Event)) (t i : ℕ) (e : Event) → slice_get run t ≡ Some (i, e)
    → slice_get (filter_map (event_of i) run) (occurrences (take t (places_of run)) i) ≡ Some e
entry [] t i e h = cc
entry (x ∷ run) zero i e h =
    let is : x ≡ (i, e) = cc in
    let own : x.0 ≡ i = ap (λ (y : ℕ × Event). y.0) is in
    let event : x.1 ≡ e = ap (λ (y : ℕ × Event). y.1) is in
    rw (own_cons x run i own) (ap Some event)
entry (x ∷ run) (suc t) i e h = elim (cases_eq x.0 i) [
  | inl own ↦
      let more : occurrences (x.0 ∷ take t (places_of run)) i ≡ suc (occurrences (take t (places_of run)) i) =
      omega (arith, cons_same x.0 i (take t (places_of run)) own) in
      rw (more, own_cons x run i own) (entry run t i e h)
  | inr ne ↦ rw (cons_other x.0 i (take t (places_of run)) ne, other_cons x run i ne) (entry run t i e h)
]

-- ---- what an order means

abbrev more_of : (ℕ → ℕ) → ℕ → ℕ → ℕ
more_of at i j = cond (i == j) (at j + 1) (at j)

-- the events from the one after (at i) of each node i on, in this order
abbrev meant : List Log → (ℕ → ℕ) → List ℕ → List (ℕ × Event)
meant logs at [] = []
meant logs at (i ∷ order) = (i, get_or (log_of logs i) (at i) (Draw 0)) ∷ meant logs (more_of at i) order

more_yes : (at : ℕ → ℕ) (i j : ℕ) → i ≡ j → more_of at i j ≡ at j + 1
more_yes at i j e = rw (eq-eqb i j e) refl

more_no : (at : ℕ → ℕ) (i j : ℕ) → i ≢ j → more_of at i j ≡ at j
more_no at i j e = rw (ne_eqb i j e) refl

meant_places : (logs : List Log) (at : ℕ → ℕ) (order : List ℕ) → places_of (meant logs at order) ≡ order
meant_places logs at [] = refl
meant_places logs at (i ∷ order) = ap (λ (x : List ℕ). i ∷ x) (meant_places logs (more_of at i) order)

-- the events of node j are those of its log from the one after (at j) on
meant_events : (logs : List Log) (at : ℕ → ℕ) (order : List ℕ) (j : ℕ)
    → at j + occurrences order j ≤ length (log_of logs j)
    → filter_map (event_of j) (meant logs at order) ≡ take (occurrences order j) (drop (at j) (log_of logs j))
meant_events logs at [] j fits = refl
meant_events logs at (i ∷ order) j fits = elim (cases_eq i j) [
  | inl e ↦
      let more = cons_same i j order e in
      let next : more_of at i j ≡ at j + 1 = more_yes at i j e in
      let room : at j < length (log_of logs j) = omega (arith, more, fits) in
      let here : get_or (log_of logs i) (at i) (Draw 0) ≡ get_or (log_of logs j) (at j) (Draw 0) =
      ap (λ (x : ℕ). get_or (log_of logs x) (at x) (Draw 0)) e in
      let rest : filter_map (event_of j) (meant logs (more_of at i) order)
      ≡ take (occurrences order j) (drop (at j + 1) (log_of logs j)) =
      meant_events logs (more_of at i) order j (omega (arith, next, more, fits))
      ∙ ap (λ (x : ℕ). take (occurrences order j) (drop x (log_of logs j))) next in
      let number : occurrences (i ∷ order) j ≡ suc (occurrences order j) = omega (arith, more) in
      own_cons (i, get_or (log_of logs i) (at i) (Draw 0)) (meant logs (more_of at i) order) j e
      ∙ ap (λ (x : List Event). get_or (log_of logs i) (at i) (Draw 0) ∷ x) rest
      ∙ ap (λ (x : Event). x ∷ take (occurrences order j) (drop (at j + 1) (log_of logs j))) here
      ∙ ap (take (suc (occurrences order j))) (sym (drop_more (log_of logs j) (at j) (Draw 0) room))
      ∙ ap (λ (x : ℕ). take x (drop (at j) (log_of logs j))) (sym number)
  | inr ne ↦
      let same : more_of at i j ≡ at j = more_no at i j ne in
      let number = cons_other i j order ne in
      other_cons (i, get_or (log_of logs i) (at i) (Draw 0)) (meant logs (more_of at i) order) j ne
      ∙ meant_events logs (more_of at i) order j (omega (arith, same, number, fits))
      ∙ ap (λ (x : ℕ). take (occurrences order j) (drop x (log_of logs j))) same
      ∙ ap (λ (x : ℕ). take x (drop (at j) (log_of logs j))) (sym number)
]

pub order_means : (logs : List Log) (order : List ℕ) → IsOrder logs order → (run : List (ℕ × Event))
    × ((places_of run ≡ order) × IsRunOfLogs logs run)
order_means logs order o = (
  meant logs (λ i. 0) order,
  (
    meant_places logs (λ i. 0) order,
    λ i l.
        meant_events logs (λ i. 0) order i (omega (arith, o.whole i l))
        ∙ take_all (occurrences order i) (log_of logs i) (omega (arith, o.whole i l)),
  ),
)

-- a run of logs is what its places mean
run_means : (logs : List Log) (run : List (ℕ × Event))
    → ((i : ℕ) (e : Event) (t : ℕ) → slice_get run t ≡ Some (i, e) → i < length logs) → IsRunOfLogs logs run
    → Means logs (places_of run) run
run_means logs run inside is = record {
  many = sym (length-map run (λ x. x.0));
  each = λ t i e at. (
    slice_get-map (λ x. x.0) run t ∙ ap (option_map (λ (x : ℕ × Event). x.0)) at,
    rw (← is i (inside i e t at)) (entry run t i e at),
  );
}

-- ---- each order of local runs is a run of the ring

abbrev pub state_at : (n : ℕ) (s : NodeState) (es : List Event) (t : NodeState) → LeadsTo n s es t → ℕ → NodeState
state_at n s es t h zero = s
state_at n s [] t h (suc a) = s
state_at n s (e ∷ es) t h (suc a) = state_at n h.0 es t h.2 a

pub state_step : (n : ℕ) (s : NodeState) (es : List Event) (t : NodeState) (h : LeadsTo n s es t) (a : ℕ) (e : Event)
    → slice_get es a ≡ Some e → NodeStep n (state_at n s es t h a) e (state_at n s es t h (suc a))
state_step n s [] t h a e at = cc
state_step n s (x ∷ es) t h zero e at =
    let same : x ≡ e = cc in
    let P : Event → Type 0 = λ y. NodeStep n s y h.0 in
    subst P same h.1
state_step n s (x ∷ es) t h (suc a) e at = state_step n h.0 es t h.2 a e at

abbrev IsLocal : Log → Type 0
IsLocal log = (t : NodeState) × LeadsTo log.nodes (first_state log.initiator) log.events t

abbrev log_state : (o : Option Log) → ((log : Log) → o ≡ Some log → IsLocal log) → ℕ → NodeState
log_state o local zero = first_state (is_initiator o)
log_state None local (suc a) = first_state false
log_state (Some log) local (suc a) =
    state_at log.nodes (first_state log.initiator) log.events (local log refl).0 (local log refl).1 (suc a)

log_step : (o : Option Log) (local : (log : Log) → o ≡ Some log → IsLocal log) (n : ℕ)
    → ((log : Log) → o ≡ Some log → log.nodes ≡ n) → (a : ℕ) (e : Event) → slice_get (events_of o) a ≡ Some e
    → NodeStep n (log_state o local a) e (log_state o local (suc a))
log_step None local n size a e at = cc
log_step (Some log) local n size zero e at =
    let P : ℕ → Type 0 = λ x. NodeStep x (log_state (Some log) local zero) e (log_state (Some log) local (suc zero)) in
    subst P (size log refl) (state_step log.nodes (first_state log.initiator) log.events (local log refl).0
    (local log refl).1 zero e at)
log_step (Some log) local n size (suc a) e at =
    let P : ℕ → Type 0 = λ x.
    NodeStep x (log_state (Some log) local (suc a)) e (log_state (Some log) local (suc (suc a))) in
    subst P (size log refl) (state_step log.nodes (first_state log.initiator) log.events (local log refl).0
    (local log refl).1 (suc a) e at)

pub order_is_run : (logs : List Log) (run : List (ℕ × Event)) → AreLogs logs → Matches logs → AreLocalRuns logs
    → IsOrder logs (places_of run) → IsRunOfLogs logs run → IsRingRun logs run
order_is_run logs run are matches local o is =
    let w : IsWholeSchedule logs (places_of run) = order_schedule logs (places_of run) are.ring.0 matches o in
    order_runs logs (places_of run) run (λ i a. log_state (slice_get logs i) (local i) a) are.ring.0 w
    (run_means logs run inside is)
    (λ i l a e at. log_step (slice_get logs i) (local i) (length logs) (are.sizes i) a e at)
  where
    inside : (i : ℕ) (e : Event) (t : ℕ) → slice_get run t ≡ Some (i, e) → i < length logs
    inside i e t at =
        let place : slice_get (places_of run) t ≡ Some i =
        slice_get-map (λ x. x.0) run t ∙ ap (option_map (λ (x : ℕ × Event). x.0)) at in
        let here : t < length (places_of run) = slice_get_within (places_of run) t i place in
        let is_i : get_or (places_of run) t 0 ≡ i = get_or_from_slice_get (places_of run) t i 0 place in
        rw is_i at (o.places t 0 here)

-- ---- the places of each run are an order

chain_places : (n : ℕ) (c : Configuration) (run : List (ℕ × Event)) → Chains n c run → All (λ p. p < n) (places_of run)
chain_places n c [] chain = All-nil (λ p. p < n)
chain_places n c (x ∷ run) chain =
    All-cons (λ p. p < n) x.0 (places_of run) chain.1.place (chain_places n chain.0 run chain.2)

chain_inside : (n : ℕ) (c : Configuration) (run : List (ℕ × Event)) → Chains n c run → (i : ℕ) (e : Event) (t : ℕ)
    → slice_get run t ≡ Some (i, e) → i < n
chain_inside n c [] chain i e t at = cc
chain_inside n c (x ∷ run) chain i e zero at =
    let is : x ≡ (i, e) = cc in
    let own : x.0 ≡ i = ap (λ (y : ℕ × Event). y.0) is in
    rw own at chain.1.place
chain_inside n c (x ∷ run) chain i e (suc t) at = chain_inside n chain.0 run chain.2 i e t at

-- the events of a node lead it on
chain_leads : (n : ℕ) (c : Configuration) (run : List (ℕ × Event)) (i : ℕ) → i < n → Chains n c run → (t : NodeState)
    × LeadsTo n (c.state i) (filter_map (event_of i) run) t
chain_leads n c [] i l chain = (c.state i, refl)
chain_leads n c (x ∷ run) i l chain =
    let d : Configuration = chain.0 in
    let r = chain_leads n chain.0 run i l chain.2 in
    elim (cases_eq x.0 i) [
      | inl e ↦
          let P : ℕ → Type 0 = λ j. NodeStep n (c.state j) x.1 (chain.0.state j) in
          let step : NodeStep n (c.state i) x.1 (chain.0.state i) = subst P e chain.1.node in
          let Q : List Event → Type 0 = λ es. LeadsTo n (c.state i) es r.0 in
          (r.0, subst Q (sym (own_cons x run i e)) (chain.0.state i, step, r.1))
      | inr ne ↦
          let stays : chain.0.state i ≡ c.state i = chain.1.others i l (λ q. ne (sym q)) in
          let P : NodeState → Type 0 = λ s. LeadsTo n s (filter_map (event_of i) run) r.0 in
          let Q : List Event → Type 0 = λ es. LeadsTo n (c.state i) es r.0 in
          (r.0, subst Q (sym (other_cons x run i ne)) (subst P stays r.1))
    ]

log_leads : (n : ℕ) (o : Option Log) (log : Log) (t : NodeState) → o ≡ Some log → log.nodes ≡ n
    → LeadsTo n (first_state (is_initiator o)) (events_of o) t
    → LeadsTo log.nodes (first_state log.initiator) log.events t
log_leads n o log t is size leads =
    let P : Option Log → Type 0 = λ x. LeadsTo n (first_state (is_initiator x)) (events_of x) t in
    let Q : ℕ → Type 0 = λ x. LeadsTo x (first_state log.initiator) log.events t in
    subst Q (sym size) (subst P is leads)

pub run_is_order : (logs : List Log) (run : List (ℕ × Event)) → AreLogs logs → IsRingRun logs run → IsRunOfLogs logs run
    → Matches logs × AreLocalRuns logs × IsOrder logs (places_of run)
run_is_order logs run are chain is =
    let means : Means logs (places_of run) run =
    run_means logs run (chain_inside (length logs) (opening logs) run chain) is in
    let whole : IsWhole logs (places_of run) = λ i l. counted run i ∙ ap length (is i l) in
    let matches : Matches logs = run_matches logs (places_of run) run are.ring.0 means whole chain in (
      matches,
      (λ i log at.
          let l : i < length logs = slice_get_within logs i log at in
          let r = chain_leads (length logs) (opening logs) run i l chain in
          let P : List Event → Type 0 =
          λ es. LeadsTo (length logs) (first_state (is_initiator (slice_get logs i))) es r.0 in
          (r.0, log_leads (length logs) (slice_get logs i) log r.0 at (are.sizes i log at) (subst P (is i l) r.1))),
      kept_order logs (places_of run) are.ring.0 record {
        matches = matches;
        schedule = record {
          places = chain_places (length logs) (opening logs) run chain;
          within = λ i l. omega (arith, whole i l);
          kept = run_kept logs (places_of run) run are.ring.0 means whole chain;
        };
        whole = whole;
      },
    )

-- ---- what answers rest on

pub every_order_is_run : (logs : List Log) → AreLogs logs → Matches logs → AreLocalRuns logs → EveryOrderIsRun logs
every_order_is_run logs are matches local = λ order is_order. (
  order_means logs order is_order,
  λ run means. order_is_run logs run are matches local (subst (IsOrder logs) (sym means.0) is_order) means.1,
)

pub unmatched_no_run : (logs : List Log) (f : MatchFault) → AreLogs logs → IsMatchFault logs f → HaveNoRun logs
unmatched_no_run logs f are fault = λ run chain is. unmatched logs f fault (run_is_order logs run are chain is).0

pub circled_no_run : (logs : List Log) → AreLogs logs → HasCircle logs → HaveNoRun logs
circled_no_run logs are circle = λ run chain is. circle.1 _ (run_is_order logs run are chain is).2

pub faulty_no_run : (logs : List Log) (i : ℕ) (log : Log) (f : ReplayFault) → AreLogs logs → slice_get logs i ≡ Some log
    → IsFirstFault log f → HaveNoRun logs
faulty_no_run logs i log f are at stops = λ run chain is.
    let local = (run_is_order logs run are chain is).1 i log at in
    let good = (leads_exactly log.nodes (first_state log.initiator) log.events
    (replayed log.nodes 0 (Ok (first_state log.initiator)) log.events) refl local.0).1 local.1 in
    let bad = (stops_exactly log.nodes (first_state log.initiator) log.events
    (replayed log.nodes 0 (Ok (first_state log.initiator)) log.events) refl f).1 stops in
    cc
