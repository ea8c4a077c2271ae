-- What a node knows of another came by each node between them; so where one of these doesn't stand before what came
-- by it, it knows it too.
use Rattle.std.proofs.Common.{◌≡◌, ◌≢◌, ℕ, zero, suc, ◌<◌, ◌≤◌, inl, inr, List, length, refl, sym, ◌∙◌, subst, arith}
use Rattle.std.proofs.lemmas.Bool.{cases_eq}
use Rattle.std.proofs.lemmas.Bool.Decides.{nat_tests}
use Rattle.ira_event.specs.Log.{Log}
use Rattle.ira_order.specs.Ring.{log_of, prev}
use Rattle.ira_order.specs.Order.{IsOrder}
use Rattle.ira_order.specs.Before.{Before, message, onward}
use Rattle.ira_order.specs.DirectDependencies.{distance}
use Rattle.ira_order.specs.VectorClock.{IsCount}
use Rattle.ira_order.proofs.Acyclic.{before_within, came_with, known_on}
use Rattle.ira_order.proofs.Bridge.{before_places}
use Rattle.ira_order.proofs.Runs.{prev_next}
use Rattle.ira_order.proofs.WayBack.{distance_back, distance_next, distance_some}

-- places of a ring at one distance are one
pub distance_tells : (n i k j : ℕ) → i < n → k < n → distance n i j ≡ distance n k j → i ≡ k
distance_tells n i k j li lk e = grind (arith, nat_tests)

-- a place is as far from itself as the ring has links, and no other is as far
pub farthest_tells : (n i j : ℕ) → i < n → j < n → distance n j j ≤ distance n i j → i ≡ j
farthest_tells n i j li lj le = grind (arith, nat_tests)

-- event a of node i is known to node w at one of its events, which happened before event b of node j
pub record PassesBy (logs : List Log) (i a w j b : ℕ) : Type 0 where
  pub event : ℕ
  pub known : Before logs i a w event
  pub passed_on : Before logs w event j b

module _ (logs : List Log) (order : List ℕ) (o : IsOrder logs order) where
  pub passes_by : (d i a w j b : ℕ) → distance (length logs) w j ≡ d → d < distance (length logs) i j → w < length logs
      → i ≢ w → i ≢ j → w ≢ j → Before logs i a j b → PassesBy logs i a w j b
  passes_by zero i a w j b is less lw apart ne other before =
      absurd (omega (arith, is, distance_some (length logs) w j lw))
  passes_by (suc d) i a w j b is less lw apart ne other before =
      let places = before_places logs i a j b before in
      let came = came_with logs order o i a j b before ne in
      let k : ℕ = came.sender in
      let back : k ≡ prev (length logs) j = prev_next (length logs) j k places.1 came.pair.link came.link in
      let sent : Before logs k came.sending j came.receipt = message came.link came.pair in
      let onto : Before logs k came.sending j b =
      known_on logs k came.sending j came.receipt b sent came.upto (before_within logs i a j b before).3 in
      elim (cases_eq k w) [
        | inl same ↦ elim came.known [
          | inl here ↦ absurd (apart (here.0 ∙ same))
          | inr known ↦ record {
            event = came.sending;
            known = subst (λ (x : ℕ). Before logs i a x came.sending) same known;
            passed_on = subst (λ (x : ℕ). Before logs x came.sending j b) same onto;
          }
        ]
        | inr further ↦
            let w_back : distance (length logs) w j ≡ suc (distance (length logs) w k) =
            subst (λ (x : ℕ). distance (length logs) w j ≡ suc (distance (length logs) w x)) (sym back)
            (distance_back (length logs) w j lw places.1 (λ e. further (back ∙ e))) in
            elim (cases_eq i k) [
              | inl here ↦ absurd (omega (
                arith,
                less,
                distance_next (length logs) i j places.0 places.1 (sym (here ∙ back)),
                is,
                w_back,
                distance_some (length logs) w k lw,
              ))
              | inr before_k ↦
                  let i_back : distance (length logs) i j ≡ suc (distance (length logs) i k) =
                  subst (λ (x : ℕ). distance (length logs) i j ≡ suc (distance (length logs) i x)) (sym back)
                  (distance_back (length logs) i j places.0 places.1 (λ e. before_k (sym (back ∙ e)))) in
                  elim came.known [
                    | inl here ↦ absurd (before_k here.0)
                    | inr known ↦
                        let so = passes_by d i a w k came.sending (omega (arith, is, w_back))
                        (omega (arith, is, w_back, less, i_back)) lw apart before_k (λ e. further (sym e)) known in
                        record { event = so.event; known = so.known; passed_on = onward so.passed_on onto }
                  ]
            ]
      ]

  -- node w stands at or past all that node j knows of it: what j knows of a node beyond w, it knows too
  pub knows_as_much : (i a w p j q c : ℕ) → distance (length logs) w j < distance (length logs) i j → w < length logs
      → p ≤ length (log_of logs w) → i ≢ w → i ≢ j → w ≢ j → IsCount logs j q w c → c ≤ p → Before logs i a j q
      → Before logs i a w p
  knows_as_much i a w p j q c less lw within apart ne other count le before =
      let by = passes_by (distance (length logs) w j) i a w j q refl less lw apart ne other before in
      let counted : by.event ≤ c =
      (count.events by.event (before_within logs w by.event j q by.passed_on).0).1 (inr by.passed_on) in
      known_on logs i a w by.event p by.known (omega (arith, counted, le)) within
