-- The way back along direct dependencies: what an event counts of a node, link by link.
use Rattle.std.proofs.Common.{◌≡◌, ◌≢◌, ℕ, zero, suc, ◌+◌, ◌-◌, ◌<◌, ◌≤◌, ◌⊎◌, inl, inr, List, length, refl, sym, ◌∙◌}
use Rattle.std.proofs.Common.{ap, subst, arith, get_or, Some, add-one, set}
use Rattle.std.specs.Prelude.{slice_get, slice_index}
use Rattle.std.proofs.lemmas.Bool.{cases_lt, cases_eq}
use Rattle.std.proofs.lemmas.Bool.Decides.{nat_tests}
use Rattle.std.proofs.lemmas.List.{length-set, get_or-set_same, get_or-set_other}
use Rattle.std.proofs.lemmas.Option.{slice_get-get_or}
use Rattle.ira_event.specs.declared.event.Event.{Event}
use Rattle.ira_event.specs.declared.event.Event.TheVariants.{Got, Sent, Draw, Yield}
use Rattle.ira_event.specs.declared.load.Load.{Load}
use Rattle.ira_event.specs.Log.{Log}
use Rattle.ira_order.specs.declared.node_dependencies.Sending.{Sending}
use Rattle.ira_order.specs.Ring.{log_of, next, prev}
use Rattle.ira_order.specs.Matching.{got, receipt}
use Rattle.ira_order.specs.Order.{IsPair}
use Rattle.ira_order.specs.Circle.{HasOrder}
use Rattle.ira_order.specs.VectorClock.{IsCount, AreCountsOfOthers}
use Rattle.ira_order.specs.Stamps.{receipts_by}
use Rattle.ira_order.specs.DirectDependencies.{IsSending, IsWayBack, AreCountsSoFar, distance}
use Rattle.ira_order.proofs.OrderPrefixes.{counted_more, receives_nothing}
use Rattle.ira_order.proofs.Counting.{one_of, count_first, count_own, count_stays, count_taken}
use Rattle.ira_order.proofs.Receipts.{receipts_by_le}
use Rattle.ira_order.proofs.Runs.{prev_below, next_prev}

-- up to event b of node j there is no receipt, and so the event counts nothing of other nodes
pub record HasNoReceipt (logs : List Log) (j b : ℕ) : Type 0 where
  pub none : receipts_by logs j b ≡ 0
  pub counts : (i : ℕ) → i ≢ j → IsCount logs j b i 0

-- the last receipt up to event b of node j: the event counts of other nodes what it counts
pub record HasLastReceipt (logs : List Log) (j b : ℕ) : Type 0 where
  pub place : ℕ
  pub message : Load
  pub is : slice_get (log_of logs j) place ≡ Some (Got message)
  pub rank : receipts_by logs j (suc place) ≡ receipts_by logs j b
  pub some : 1 ≤ receipts_by logs j b
  pub counts : (i n : ℕ) → i ≢ j → IsCount logs j (suc place) i n → IsCount logs j b i n

-- links from one node on to another
pub distance_back : (n i k : ℕ) → i < n → k < n → prev n k ≢ i → distance n i k ≡ suc (distance n i (prev n k))
distance_back n i zero li lk ne = grind (arith, nat_tests)
distance_back n i (suc k) li lk ne = grind (arith, nat_tests)

pub distance_next : (n i k : ℕ) → i < n → k < n → prev n k ≡ i → distance n i k ≡ 1
distance_next n i zero li lk e = grind (arith, nat_tests)
distance_next n i (suc k) li lk e = grind (arith, nat_tests)

pub distance_self : (n k : ℕ) → distance n k k ≡ n
distance_self n k = grind (arith, nat_tests)

pub distance_some : (n i k : ℕ) → i < n → 1 ≤ distance n i k
distance_some n i k li = grind (arith, nat_tests)

pub distance_most : (n i k : ℕ) → k < n → distance n i k ≤ n
distance_most n i k lk = grind (arith, nat_tests)

pub distance_other : (n i k : ℕ) → k < n → i ≢ k → distance n i k < n
distance_other n i k lk ne = grind (arith, nat_tests)

module _ (logs : List Log) (has : HasOrder logs) where
  pub last_receipt : (j b : ℕ) → j < length logs → b ≤ length (log_of logs j) → HasNoReceipt logs j b
      ⊎ HasLastReceipt logs j b
  last_receipt j zero lj l = inl (record { none = refl; counts = λ i ne. count_first logs j i })
  last_receipt j (suc b) lj l =
      by_event (get_or (log_of logs j) b (Draw 0)) (slice_get-get_or (log_of logs j) b (Draw 0) (omega arith))
      (last_receipt j b lj (omega arith))
    where
      quiet : (e : Event) → slice_get (log_of logs j) b ≡ Some e → ((m : Load) → e ≡ Got m → ⊥) → HasNoReceipt logs j b
          ⊎ HasLastReceipt logs j b → HasNoReceipt logs j (suc b) ⊎ HasLastReceipt logs j (suc b)
      quiet e is never before =
          let same : receipts_by logs j (suc b) ≡ receipts_by logs j b =
          rw (← add-one b) (omega (arith, counted_more receipt (log_of logs j) b e is, receives_nothing e never)) in
          let stays : (i n : ℕ) → i ≢ j → IsCount logs j b i n → IsCount logs j (suc b) i n =
          λ i n ne count. count_stays logs has.1 has.2 j b i n lj ne l (λ m q.
          never m (let z : Some e ≡ Some (Got m) = sym is ∙ q in cc)) count in
          elim before [
            | inl none ↦ inl (record { none = same ∙ none.none; counts = λ i ne. stays i 0 ne (none.counts i ne) })
            | inr last ↦ inr (record {
              place = last.place;
              message = last.message;
              is = last.is;
              rank = last.rank ∙ sym same;
              some = omega (arith, same, last.some);
              counts = λ i n ne count. stays i n ne (last.counts i n ne count);
            })
          ]

      by_event : (e : Event) → slice_get (log_of logs j) b ≡ Some e → HasNoReceipt logs j b ⊎ HasLastReceipt logs j b
          → HasNoReceipt logs j (suc b) ⊎ HasLastReceipt logs j (suc b)
      by_event (Got m) is before = inr (record {
        place = b;
        message = m;
        is = is;
        rank = refl;
        some = (let more : 1 ≤ receipts_by logs j (b + 1) = omega (arith, counted_more receipt (log_of logs j) b (Got m) is) in
            rw add-one at more);
        counts = λ i n ne count. count;
      })
      by_event (Sent m) is before = quiet (Sent m) is (λ n q. cc) before
      by_event (Draw m) is before = quiet (Draw m) is (λ n q. cc) before
      by_event Yield is before = quiet Yield is (λ n q. cc) before

  -- at the event itself
  pub way_begins : (j b i : ℕ) → j < length logs → b ≤ length (log_of logs j)
      → IsWayBack logs j b i j (receipts_by logs j b)
  way_begins j b i lj l = record { event = b; place = lj; within = l; receipts = refl; counts = λ n count. count }

  -- where nothing was received
  pub way_none : (j b i k : ℕ) → k ≢ i → IsWayBack logs j b i k 0 → IsCount logs j b i 0
  way_none j b i k ne way = elim (last_receipt k way.event way.place way.within) [
    | inl none ↦ way.counts 0 (none.counts i (λ q. ne (sym q)))
    | inr last ↦ absurd (omega (arith, way.receipts, last.some))
  ]

  -- so many receipts there are
  pub way_receipts : (j b i k r : ℕ) → IsWayBack logs j b i k r → r ≤ length (got (log_of logs k))
  way_receipts j b i k r way = omega (arith, way.receipts, receipts_by_le logs k way.event)

  -- from a receipt back to its sending
  module _ (j b i k r : ℕ) (s : Sending) (ne : k ≢ i) (some : 0
      < r) (way : IsWayBack logs j b i k r) (sending : IsSending (log_of logs (prev (length logs) k)) (r - 1) s) where
    link : next (length logs) (prev (length logs) k) ≡ k
    link = next_prev (length logs) k way.place

    back : prev (length logs) k < length logs
    back = prev_below (length logs) k way.place

    last : HasLastReceipt logs k way.event
    last = elim (last_receipt k way.event way.place way.within) [
      | inl none ↦ absurd (omega (arith, some, way.receipts, none.none))
      | inr found ↦ found
    ]

    pair : IsPair logs (prev (length logs) k) s.number (suc last.place)
    pair = record {
      message = sending.message;
      taken = last.message;
      link = back;
      sends = sending.sends;
      receives = rw link last.is;
      rank = rw link (omega (arith, sending.rank, some, way.receipts, last.rank));
    }

    within : s.number ≤ length (log_of logs (prev (length logs) k))
    within = (one_of logs (prev (length logs) k) s.number (suc last.place) pair).1

    taken : (n : ℕ) → IsCount logs (prev (length logs) k) s.number i n → IsCount logs j b i n
    taken n count =
        let other : i ≢ next (length logs) (prev (length logs) k) = λ q. ne (sym (q ∙ link)) in
        let at : IsCount logs k (suc last.place) i n =
        subst (λ (x : ℕ). IsCount logs x (suc last.place) i n) link
        (count_taken logs has.1 has.2 (prev (length logs) k) s.number (suc last.place) i n other pair count) in
        way.counts n (last.counts i n (λ q. ne (sym q)) at)

    -- the node that was asked for
    pub way_ends : prev (length logs) k ≡ i → IsCount logs j b i s.number
    way_ends e = taken s.number
        (subst (λ (x : ℕ). IsCount logs (prev (length logs) k) s.number x s.number) e
        (count_own logs has.1 has.2 (prev (length logs) k) s.number back within))

    -- another
    pub way_on : IsWayBack logs j b i (prev (length logs) k) s.received
    way_on = record { event = s.number; place = back; within = within; receipts = sending.received; counts = taken }

  -- all nodes are ahead
  pub counts_begin : (j b : ℕ) (counts : List ℕ) → j < length logs → b ≤ length (log_of logs j)
      → length counts ≡ length logs → ((i : ℕ) → i < length logs → slice_index counts i ≡ 0)
      → AreCountsSoFar logs j b j (receipts_by logs j b) counts
  counts_begin j b counts lj l places zeros = record {
    place = lj;
    receipts = receipts_by_le logs j b;
    places = places;
    passed = λ i li ne far. absurd (omega (
      arith,
      far,
      distance_self (length logs) j,
      distance_other (length logs) i j lj ne,
    ));
    ahead = λ i li near. (zeros i li, way_begins j b i lj l);
  }

  module _ (j b k r : ℕ) (counts : List ℕ) (lj : j < length logs) (so_far : AreCountsSoFar logs j b k r counts) where
    -- nothing was received: the nodes ahead are unknown
    pub counts_none : r ≡ 0 → AreCountsOfOthers logs j b counts
    counts_none none = record {
      places = so_far.places;
      others = λ i li ne. elim (cases_lt (distance (length logs) i k) (distance (length logs) j k)) [
        | inl near ↦
            let ahead = so_far.ahead i li near in
            let way : IsWayBack logs j b i k 0 = subst (IsWayBack logs j b i k) none ahead.1 in
            rw ahead.0 (way_none j b i k (other i near) way)
        | inr far ↦ so_far.passed i li ne far
      ];
    }
      where
        other : (i : ℕ) → distance (length logs) i k < distance (length logs) j k → k ≢ i
        other i near q =
            let near' : distance (length logs) k k < distance (length logs) j k =
            subst (λ (x : ℕ). distance (length logs) x k < distance (length logs) j k) (sym q) near in
            omega (arith, near', distance_self (length logs) k, distance_most (length logs) j k so_far.place)

    -- the way is round: no node is ahead
    pub counts_end : prev (length logs) k ≡ j → AreCountsOfOthers logs j b counts
    counts_end e = record {
      places = so_far.places;
      others = λ i li ne. so_far.passed i li ne (omega (
        arith,
        distance_next (length logs) j k lj so_far.place e,
        distance_some (length logs) i k li,
      ));
    }

    -- one node further back
    module _ (ne : prev (length logs) k ≢ j) where
      back_ : prev (length logs) k < length logs
      back_ = prev_below (length logs) k so_far.place

      pub next_ahead : distance (length logs) (prev (length logs) k) k < distance (length logs) j k
      next_ahead = omega (
        arith,
        distance_next (length logs) (prev (length logs) k) k back_ so_far.place refl,
        distance_back (length logs) j k lj so_far.place ne,
        distance_some (length logs) j (prev (length logs) k) lj,
      )

      pub next_way : IsWayBack logs j b (prev (length logs) k) k r
      next_way = (so_far.ahead (prev (length logs) k) back_ next_ahead).1

      pub counts_on : (s : Sending) → 0 < r → IsSending (log_of logs (prev (length logs) k)) (r - 1) s
          → AreCountsSoFar logs j b (prev (length logs) k) s.received (set counts (prev (length logs) k) s.number)
      counts_on s some sending = record {
        place = back_;
        receipts = omega (arith, sending.received, receipts_by_le logs (prev (length logs) k) s.number);
        places = length-set counts (prev (length logs) k) s.number ∙ so_far.places;
        passed = λ i li other far. elim (cases_eq i (prev (length logs) k)) [
          | inl e ↦
              let here : slice_index (set counts (prev (length logs) k) s.number) i ≡ s.number =
              ap (slice_index (set counts (prev (length logs) k) s.number)) e
              ∙ get_or-set_same counts (prev (length logs) k) s.number 0 (omega (arith, back_, so_far.places)) in
              let near = subst (λ (x : ℕ). distance (length logs) x k
              < distance (length logs) j k) (sym e) next_ahead in
              rw here (way_ends j b i k r s (apart i near) some (so_far.ahead i li near).1 sending (sym e))
          | inr ne' ↦
              rw (get_or-set_other counts (prev (length logs) k) i s.number 0 ne')
              (so_far.passed i li other (omega (
                arith,
                far,
                distance_back (length logs) i k li so_far.place (λ q. ne' (sym q)),
                distance_back (length logs) j k lj so_far.place ne,
              )))
        ];
        ahead = λ i li near.
            let ne' : i ≢ prev (length logs) k = λ q. here i near q in
            let near' : distance (length logs) i k < distance (length logs) j k =
            omega (
              arith,
              near,
              distance_back (length logs) i k li so_far.place (λ q. ne' (sym q)),
              distance_back (length logs) j k lj so_far.place ne,
            ) in
            let before = so_far.ahead i li near' in (
              get_or-set_other counts (prev (length logs) k) i s.number 0 ne' ∙ before.0,
              way_on j b i k r s (apart i near') some before.1 sending,
            );
      }
        where
          apart : (i : ℕ) → distance (length logs) i k < distance (length logs) j k → k ≢ i
          apart i near q =
              let near' : distance (length logs) k k < distance (length logs) j k =
              subst (λ (x : ℕ). distance (length logs) x k < distance (length logs) j k) (sym q) near in
              omega (arith, near', distance_self (length logs) k, distance_most (length logs) j k so_far.place)

          here : (i : ℕ) → distance (length logs) i (prev (length logs) k)
              < distance (length logs) j (prev (length logs) k) → i ≡ prev (length logs) k → ⊥
          here i near q =
              let near' : distance (length logs) (prev (length logs) k) (prev (length logs) k)
              < distance (length logs) j (prev (length logs) k) =
              subst (λ (x : ℕ). distance (length logs) x (prev (length logs) k)
              < distance (length logs) j (prev (length logs) k)) q near in
              omega (
                arith,
                near',
                distance_self (length logs) (prev (length logs) k),
                distance_most (length logs) j (prev (length logs) k) back_,
              )
