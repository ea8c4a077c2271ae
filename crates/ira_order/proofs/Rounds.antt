-- Rounds that add events to the beginning of an order, and their end.
use Rattle.std.proofs.Common.{◌≡◌, ℕ, zero, suc, ◌+◌, ◌<◌, ◌≤◌, inl, inr, List, [], ◌∷◌, ◌++◌, length, refl, sym, ◌∙◌}
use Rattle.std.proofs.Common.{ap, arith, append_assoc, append-nil, length-append, take, replicate, subst}
use Rattle.std.proofs.lemmas.List.{get_or-replicate, length-replicate, nil_from_length}
use Rattle.std.proofs.lemmas.List.Elements.{All-nil}
use Rattle.std.specs.List.{sum_by}
use Rattle.ira_event.specs.Log.{Log}
use Rattle.ira_event.specs.Logs.{AreLogs}
use Rattle.ira_order.specs.declared.tally.Tally.{Tally}
use Rattle.ira_order.specs.Ring.{log_of, next}
use Rattle.ira_order.specs.Matching.{sent, got, Matches}
use Rattle.ira_order.specs.Order.{occurrences, IsOrder}
use Rattle.ira_order.specs.Counts.{IsSchedule, IsWhole, IsWholeSchedule}
use Rattle.ira_order.specs.Tally.{no_events}
use Rattle.ira_order.specs.OrderPrefix.{IsOrderPrefix, IsLongest, IsShort, HasGrown, IsStuckAt, OrderPrefix, tally_at}
use Rattle.ira_order.proofs.Bridge.{kept_order, order_schedule}
use Rattle.std.proofs.lemmas.Bool.{cases_lt}
use Rattle.ira_order.proofs.Stuck.{all_below}
use Rattle.std.proofs.lemmas.List.Sums.{sum_by-cons}

pub has_grown_trans : (a b d : List ℕ) → HasGrown a b → HasGrown b d → HasGrown a d
has_grown_trans a b d f g = (f.0 ++ g.0, g.1 ∙ ap (λ (x : List ℕ). x ++ g.0) f.1 ∙ append_assoc a f.0 g.0)

pub has_grown_length : (a b : List ℕ) → HasGrown a b → length a ≤ length b
has_grown_length a b g = omega (arith, ap length g.1, length-append a g.0)

pub has_grown_same : (a b : List ℕ) → HasGrown a b → length b ≤ length a → b ≡ a
has_grown_same a b g l =
    let none : length g.0 ≡ 0 = omega (arith, ap length g.1, length-append a g.0) in
    g.1 ∙ ap (λ (x : List ℕ). a ++ x) (nil_from_length g.0 none) ∙ append-nil a

-- a place more without a step
pub stuck_more : (logs : List Log) (first old new : List ℕ) (i : ℕ) → HasGrown first old → HasGrown old new
    → (length old ≡ length first → (j : ℕ) → j < i → IsStuckAt logs (occurrences old) j)
    → IsStuckAt logs (occurrences new) i → length new ≡ length first → (j : ℕ) → j < i + 1
    → IsStuckAt logs (occurrences new) j
stuck_more logs first old new i f g before here e j l =
    let a = has_grown_length first old f in
    let b = has_grown_length old new g in
    let same : new ≡ old = has_grown_same old new g (omega arith) in
    elim (cases_lt j i) [
      | inl lower ↦ (let P : List ℕ → Type 0 = λ x. IsStuckAt logs (occurrences x) j in
          subst P (sym same) (before (omega arith) j lower))
      | inr top ↦ (let at : i ≡ j = omega arith in let P : ℕ → Type 0 = λ x. IsStuckAt logs (occurrences new) x in
          subst P at here)
    ]

-- how many events a log has
abbrev pub event_count : Log → ℕ
event_count log = length log.events

-- no more events than the logs have
events_within : (tallies : List Tally) (logs : List Log) → length tallies ≡ length logs
    → ((i : ℕ) → i < length logs → (tally_at tallies i).events ≤ length (log_of logs i))
    → sum_by (λ t. t.events) tallies ≤ sum_by event_count logs
events_within [] logs e w = omega arith
events_within (t ∷ tallies) [] e w = absurd (omega arith)
events_within (t ∷ tallies) (log ∷ logs) e w =
    omega (
      arith,
      sum_by-cons (λ (x : Tally). x.events) t tallies,
      sum_by-cons event_count log logs,
      w 0 (omega arith),
      events_within tallies logs (omega arith) (λ i l. w (suc i) (omega arith)),
    )

pub few_places : (logs : List Log) (p : OrderPrefix) → IsOrderPrefix logs p → length p.places ≤ sum_by event_count logs
few_places logs p prefix =
    omega (
      arith,
      prefix.total,
      events_within p.tallies logs prefix.nodes (λ i l.
          omega (arith, (prefix.each i l).made, prefix.schedule.within i l)),
    )

-- the beginning of an order that holds every log whole
pub whole_order : (logs : List Log) (p : OrderPrefix) → Matches logs → IsOrderPrefix logs p → IsWhole logs p.places
    → IsOrder logs p.places
whole_order logs p matches prefix whole =
    kept_order logs p.places prefix.logs_are.ring.0 record {
      matches = matches;
      schedule = prefix.schedule;
      whole = whole;
    }

-- one that no event may come after, before the end of a log
pub no_order : (logs : List Log) (p : OrderPrefix) → Matches logs → IsLongest logs p → IsShort logs p.places
    → (order : List ℕ) → IsOrder logs order → ⊥
no_order logs p matches longest short order o =
    let two : 2 ≤ length logs = longest.prefix.logs_are.ring.0 in
    let w : IsWholeSchedule logs order = order_schedule logs order two matches o in
    omega (
      arith,
      all_below logs order (occurrences p.places) two w.schedule.places w.schedule.within w.schedule.kept
          longest.stuck short.0 short.1,
      w.whole short.0 short.1,
      short.2,
    )

-- no event
pub no_places : (logs : List Log) → IsSchedule logs []
no_places logs = record {
  places = All-nil (λ p. p < length logs);
  within = λ i l. omega arith;
  kept = empty;
}
  where
    empty : (t : ℕ) → t ≤ 0 → (i : ℕ) → i < length logs
        → length (got (take (occurrences (take t []) (next (length logs) i)) (log_of logs (next (length logs) i))))
        ≤ length (sent (take (occurrences (take t []) i) (log_of logs i)))
    empty zero h i l = omega arith
    empty (suc t) h i l = absurd (omega arith)

pub sum_none : {X : Type 0} → (f : X → ℕ) (x : X) → f x ≡ 0 → (n : ℕ) → sum_by f (replicate n x) ≡ 0
sum_none f x none zero = refl
sum_none f x none (suc n) = sum_by-cons f x (replicate n x) ∙ omega (arith, none, sum_none f x none n)

-- the beginning of an order without an event
pub no_step_yet : (logs : List Log) → AreLogs logs
    → IsOrderPrefix logs (record { places = []; tallies = replicate (length logs) no_events })
no_step_yet logs are = record {
  logs_are = are;
  schedule = no_places logs;
  nodes = length-replicate (length logs) no_events;
  each = λ i l. rw (get_or-replicate (length logs) i no_events no_events l)
      (record { made = refl; sendings = refl; receipts = refl });
  total = sum_none (λ (t : Tally). t.events) no_events refl (length logs);
}
