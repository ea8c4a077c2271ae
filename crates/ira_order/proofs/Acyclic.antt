-- Where logs have an order: each event stands in it after those that happened before it, so events of
-- one node happened before one another by their numbers alone, and what is known of another node came
-- with a receipt.
use Rattle.std.proofs.Common.{◌≡◌, ◌≢◌, ℕ, zero, suc, ◌+◌, ◌-◌, ◌<◌, ◌≤◌, inl, inr, List, length, refl, ◌∙◌, ap, arith}
use Rattle.std.proofs.Common.{take, Some, subst, sym}
use Rattle.ira_event.specs.declared.event.Event.{Event}
use Rattle.ira_event.specs.declared.load.Load.{Load}
use Rattle.ira_event.specs.Log.{Log}
use Rattle.ira_event.specs.declared.event.Event.TheVariants.{Got}
use Rattle.ira_order.specs.Ring.{log_of, next, numbered}
use Rattle.ira_order.specs.Order.{IsOrder, IsPair, StandsAt, occurrences}
use Rattle.ira_order.specs.Before.{Before, own, message, onward}
use Rattle.ira_order.specs.VectorClock.{AtOrBefore}
use Rattle.ira_order.proofs.Ranks.{occurrences_same, occurrences_mono}
use Rattle.std.proofs.lemmas.Bool.{cases_lt, cases_eq}
use Rattle.ira_order.proofs.Places.{stands}
use Rattle.ira_order.proofs.Bridge.{before_places}
use Rattle.std.proofs.lemmas.Option.{slice_get-get_or, get_or_from_slice_get, slice_get_within}
use Rattle.std.proofs.lemmas.List.{take_all}

numbered_event : (es : List Event) (a : ℕ) (e : Event) → numbered es a ≡ Some e → (1 ≤ a) × (a ≤ length es)
numbered_event es zero e h = cc
numbered_event es (suc a) e h = (omega arith, omega (arith, slice_get_within es a e h))

-- both events are there
pub before_within : (logs : List Log) (i a j b : ℕ) → Before logs i a j b → (1 ≤ a) × (a ≤ length (log_of logs i))
    × (1 ≤ b) × (b ≤ length (log_of logs j))
before_within logs i a j b (own e l one lower upper) = rw (← e) (one, (omega arith), (omega arith), upper)
before_within logs i a j b (message e pair) =
    let s = numbered_event (log_of logs i) a _ pair.sends in
    let r = numbered_event (log_of logs (next (length logs) i)) b _ pair.receives in
    rw (← e) (s.0, s.1, r.0, r.1)
before_within logs i a j b (onward f g) =
    let x = before_within logs _ _ _ _ f in
    let y = before_within logs _ _ _ _ g in
    (x.0, x.1, y.2, y.3)

-- an earlier event of the node happened before it too
pub before_earlier : (logs : List Log) (i a b j c : ℕ) → 1 ≤ a → a ≤ b → Before logs i b j c → Before logs i a j c
before_earlier logs i a b j c first le before = elim (cases_eq a b) [
  | inl same ↦ subst (λ (k : ℕ). Before logs i k j c) (sym same) before
  | inr other ↦ onward (own refl (before_places logs i b j c before).0 first (omega (arith, le, other))
      (before_within logs i b j c before).1) before
]

-- what a node knows at an event it knows at a later one
pub known_on : (logs : List Log) (i a j q r : ℕ) → Before logs i a j q → q ≤ r → r ≤ length (log_of logs j)
    → Before logs i a j r
known_on logs i a j q r before le within = elim (cases_eq q r) [
  | inl same ↦ subst (λ (k : ℕ). Before logs i a j k) same before
  | inr other ↦ onward before (own refl (before_places logs i a j q before).1 (before_within logs i a j q before).2
      (omega (arith, le, other)) within)
]

-- what is known at an event happened before what comes after that event
pub known_before : (logs : List Log) (i a k s j r : ℕ) → AtOrBefore logs i a k s → Before logs k s j r
    → Before logs i a j r
known_before logs i a k s j r (inl e) before = rw (e.0, e.1) before
known_before logs i a k s j r (inr h) before = onward h before

-- event a of node i is known to node j by event b: it came with a receipt
pub record CameWith (logs : List Log) (i a j b : ℕ) : Type 0 where
  pub receipt : ℕ
  pub sender : ℕ
  pub sending : ℕ
  pub upto : receipt ≤ b
  pub link : next (length logs) sender ≡ j
  pub pair : IsPair logs sender sending receipt
  pub known : AtOrBefore logs i a sender sending

module _ (logs : List Log) (order : List ℕ) (o : IsOrder logs order) where
  -- where event b of node j stands
  pub place_of : (j b : ℕ) → j < length logs → 1 ≤ b → b ≤ length (log_of logs j) → (t : ℕ) × StandsAt order t j b
  place_of j b lj one l =
      let whole : take (length order) order ≡ order = take_all (length order) order (omega arith) in
      let room : b - 1 < occurrences (take (length order) order) j = rw whole (omega (arith, o.whole j lj)) in
      let s = stands order (length order) j (b - 1) (omega arith) room in
      (s.0, (slice_get-get_or order s.0 0 s.1 ∙ ap Some s.2, omega (arith, s.3)))

  pub before_stands : (i a j b : ℕ) → Before logs i a j b → (s t : ℕ) → StandsAt order s i a → StandsAt order t j b
      → s < t
  before_stands i a j b (own e l one lower upper) s t si tj = elim (cases_lt s t) [
    | inl fine ↦ fine
    | inr late ↦ (let tj' = rw (← e) at tj in absurd (omega (arith, occurrences_mono order t s i late, si.1, tj'.1)))
  ]
  before_stands i a j b (message e pair) s t si tj = o.after i a b s t pair si (rw e tj)
  before_stands i a k c (onward {j = j} {b = b} f g) s t si tk =
      let w = before_within logs i a j b f in
      let p = before_places logs i a j b f in
      let m = place_of j b p.1 w.2 w.3 in
      omega (arith, before_stands i a j b f s m.0 si m.1, before_stands j b k c g m.0 t m.1 tk)

  -- events of one node are before one another by their numbers alone
  pub before_own : (i a b : ℕ) → Before logs i a i b → a < b
  before_own i a b h =
      let w = before_within logs i a i b h in
      let p = before_places logs i a i b h in
      let s = place_of i a p.0 w.0 w.1 in
      let t = place_of i b p.0 w.2 w.3 in
      let l : s.0 < t.0 = before_stands i a i b h s.0 t.0 s.1 t.1 in
      let here : s.0 < length order = slice_get_within order s.0 i s.1.0 in
      let at_s = occurrences_same order s.0 i here (get_or_from_slice_get order s.0 i 0 s.1.0) in
      omega (arith, at_s, occurrences_mono order (s.0 + 1) t.0 i (omega arith), s.1.1, t.1.1)

  -- what comes from another node came with a receipt
  pub came_with : (i a j b : ℕ) → Before logs i a j b → i ≢ j → CameWith logs i a j b
  came_with i a j b (own e l one lower upper) ne = absurd (ne e)
  came_with i a j b (message e pair) ne =
      record {
        receipt = b;
        sender = i;
        sending = a;
        upto = omega arith;
        link = e;
        pair = pair;
        known = inl (refl, refl);
      }
  came_with i a j b (onward {j = x} {b = y} f g) ne = elim (cases_eq x j) [
    | inr other ↦
        let c : CameWith logs x y j b = came_with x y j b g other in
        record {
          receipt = c.receipt;
          sender = c.sender;
          sending = c.sending;
          upto = c.upto;
          link = c.link;
          pair = c.pair;
          known = inr (elim c.known [ inl e ↦ rw (← e.0, ← e.1) f | inr h ↦ onward f h ]);
        }
    | inl e ↦
        let c : CameWith logs i a x y = came_with i a x y f (λ q. ne (q ∙ e)) in
        let g' : Before logs j y j b = rw e at g in
        let less : y < b = before_own j y b g' in
        record {
          receipt = c.receipt;
          sender = c.sender;
          sending = c.sending;
          upto = omega (arith, c.upto);
          link = c.link ∙ e;
          pair = c.pair;
          known = c.known;
        }
  ]

  -- what comes from another node before an event that is no receipt comes before the event below it
  pub steady : (i a j b : ℕ) → Before logs i a j (suc b) → i ≢ j
      → ((m : Load) → numbered (log_of logs j) (suc b) ≡ Some (Got m) → ⊥) → Before logs i a j b
  steady i a j b h ne quiet =
      let c : CameWith logs i a j (suc b) = came_with i a j (suc b) h ne in
      let at_j : numbered (log_of logs j) c.receipt ≡ Some (Got c.pair.taken) = rw c.link at c.pair.receives in
      let w = numbered_event (log_of logs j) c.receipt _ at_j in
      let arrived : Before logs i a j c.receipt =
      known_before logs i a c.sender c.sending j c.receipt c.known (message c.link c.pair) in
      elim (cases_eq c.receipt (suc b)) [
        | inl same ↦ (let r = rw same at at_j in absurd (quiet c.pair.taken r))
        | inr lower ↦ elim (cases_eq c.receipt b) [
          | inl same ↦ rw (← same) arrived
          | inr below ↦
              let p = before_places logs i a j (suc b) h in
              let q = before_within logs i a j (suc b) h in
              onward arrived (own refl p.1 w.0 (omega (arith, c.upto)) (omega (arith, q.3)))
        ]
      ]
