-- Cuts by counts, and the greater and the lesser of cuts.
use Rattle.std.proofs.Common.{ℕ, zero, suc, ◌<◌, ◌≤◌, ◌⊎◌, inl, inr, List, length, refl, arith}
use Rattle.std.specs.Prelude.{slice_index}
use Rattle.ira_event.specs.Log.{Log}
use Rattle.ira_order.specs.Before.{onward}
use Rattle.ira_order.specs.Cut.{HoldsAllBefore, IsConsistentCut, IsJoin, IsMeet}
use Rattle.ira_order.specs.VectorClock.{AtOrBefore, IsCount, AreCounts}
use Rattle.ira_order.proofs.Acyclic.{before_within}
use Rattle.ira_order.proofs.Bridge.{before_places}

-- what counts the events up to one event holds all that happened before what it holds
pub counts_hold : (logs : List Log) (j b : ℕ) (at : ℕ → ℕ) → ((i : ℕ) → i < length logs → IsCount logs j b i (at i))
    → HoldsAllBefore logs at
counts_hold logs j b at counts i a k c before held =
    let p = before_places logs i a k c before in
    let w = before_within logs i a k c before in
    let known : AtOrBefore logs k c j b = ((counts k p.1).events c w.2).0 held in
    let known_too : AtOrBefore logs i a j b =
    inr (elim known [ inl e ↦ rw (← e.0, ← e.1) before | inr h ↦ onward before h ]) in
    ((counts i p.0).events a w.0).1 known_too

pub counts_cut : (logs : List Log) (j b : ℕ) (counts : List ℕ) → AreCounts logs j b counts → IsConsistentCut logs counts
counts_cut logs j b counts are = (
  record { places = are.places; within = λ i l. (are.each i l).within },
  counts_hold logs j b (slice_index counts) are.each,
)

-- what holds an event holds as many events of each node as the event counts
pub count_below : (logs : List Log) (j b i n : ℕ) (at : ℕ → ℕ) → IsCount logs j b i n → HoldsAllBefore logs at
    → b ≤ at j → n ≤ at i
count_below logs j b i zero at count holds held = omega arith
count_below logs j b i (suc n) at count holds held = elim ((count.events (suc n) (omega arith)).0 (omega arith)) [
  | inl e ↦ (let held' : b ≤ at i = rw e.0 held in omega (arith, e.1))
  | inr before ↦ holds i (suc n) j b before held
]

-- an event counts itself
pub count_self : (logs : List Log) (j b n : ℕ) → IsCount logs j b j n → b ≤ n
count_self logs j zero n count = omega arith
count_self logs j (suc b) n count = (count.events (suc b) (omega arith)).1 (inl (refl, refl))

pub counts_least : (logs : List Log) (j b : ℕ) (counts cut : List ℕ) → j < length logs → AreCounts logs j b counts
    → IsConsistentCut logs cut → (b ≤ slice_index counts j)
    × (b ≤ slice_index cut j → (i : ℕ) → i < length logs → slice_index counts i ≤ slice_index cut i)
counts_least logs j b counts cut lj are cut_is = (
  count_self logs j b (slice_index counts j) (are.each j lj),
  λ held i li. count_below logs j b i (slice_index counts i) (slice_index cut) (are.each i li) cut_is.1 held,
)

-- where each position is at most that of some part that lies at or below it everywhere, and the parts
-- hold all before, so do the positions
pub join_holds : (logs : List Log) (at : ℕ → ℕ)
    → ((j : ℕ) → j < length logs → (part : ℕ → ℕ) × HoldsAllBefore logs part × (at j ≤ part j)
    × ((i : ℕ) → i < length logs → part i ≤ at i)) → HoldsAllBefore logs at
join_holds logs at parts i a j b before held =
    let p = before_places logs i a j b before in
    let part = parts j p.1 in
    omega (arith, part.1 i a j b before (omega (arith, part.2)), part.3 i p.0)

-- where each position is at least that of some part that lies at or above it everywhere, likewise
pub meet_holds : (logs : List Log) (at : ℕ → ℕ)
    → ((i : ℕ) → i < length logs → (part : ℕ → ℕ) × HoldsAllBefore logs part × (part i ≤ at i)
    × ((j : ℕ) → j < length logs → at j ≤ part j)) → HoldsAllBefore logs at
meet_holds logs at parts i a j b before held =
    let p = before_places logs i a j b before in
    let part = parts i p.0 in
    omega (arith, part.1 i a j b before (omega (arith, part.3 j p.1)), part.2)

pub either : (a b : ℕ) → (a ≤ b) ⊎ (b ≤ a)
either a b = grind arith

pub join_cut : (logs : List Log) (a b cut : List ℕ) → IsConsistentCut logs a → IsConsistentCut logs b
    → IsJoin logs a b cut → IsConsistentCut logs cut
join_cut logs a b cut ca cb join = (
  record { places = join.places; within = λ i l. omega (arith, join.greater i l, ca.0.within i l, cb.0.within i l) },
  join_holds logs (slice_index cut) (λ j l. elim (either (slice_index a j) (slice_index b j)) [
    | inl h ↦ (slice_index b, cb.1, omega (arith, join.greater j l), λ i li. omega (arith, join.greater i li))
    | inr h ↦ (slice_index a, ca.1, omega (arith, join.greater j l), λ i li. omega (arith, join.greater i li))
  ]),
)

pub meet_cut : (logs : List Log) (a b cut : List ℕ) → IsConsistentCut logs a → IsConsistentCut logs b
    → IsMeet logs a b cut → IsConsistentCut logs cut
meet_cut logs a b cut ca cb meet = (
  record { places = meet.places; within = λ i l. omega (arith, meet.lesser i l, ca.0.within i l, cb.0.within i l) },
  meet_holds logs (slice_index cut) (λ i l. elim (either (slice_index a i) (slice_index b i)) [
    | inl h ↦ (slice_index a, ca.1, omega (arith, meet.lesser i l), λ j lj. omega (arith, meet.lesser j lj))
    | inr h ↦ (slice_index b, cb.1, omega (arith, meet.lesser i l), λ j lj. omega (arith, meet.lesser j lj))
  ]),
)
