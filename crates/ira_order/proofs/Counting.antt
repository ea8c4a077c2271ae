-- How the count of an event follows from that of an event before it.
use Rattle.std.proofs.Common.{◌≡◌, ◌≢◌, ℕ, zero, suc, ◌+◌, ◌<◌, ◌≤◌, inl, inr, List, [], length, refl, sym, ◌∙◌, ap}
use Rattle.std.proofs.Common.{arith, take, get_or, Some, add-one, add-zero, ◌↔◌, IsTrue, not, nat_eq}
use Rattle.std.specs.List.{cons_option}
use Rattle.std.specs.Prelude.{slice_get}
use Rattle.ira_event.specs.declared.event.Event.{Event}
use Rattle.ira_event.specs.declared.load.Load.{Load}
use Rattle.ira_event.specs.Log.{Log}
use Rattle.ira_event.specs.declared.event.Event.TheVariants.{Got, Sent, Draw, Yield}
use Rattle.ira_order.specs.Ring.{log_of, next, prev, numbered}
use Rattle.ira_order.specs.Matching.{got, sending, receipt, Matches}
use Rattle.ira_order.specs.Order.{IsOrder, IsPair}
use Rattle.ira_order.specs.Counts.{Covers}
use Rattle.ira_order.specs.Before.{Before, own, message, onward}
use Rattle.ira_order.specs.VectorClock.{AtOrBefore, IsCount}
use Rattle.ira_order.specs.Stamps.{NodeStamps, receipts_by, CountsAt, CountsSent}
use Rattle.ira_order.proofs.Ranks.{rank_mono, next_below}
use Rattle.std.proofs.lemmas.Bool.{cases_lt, cases_eq}
use Rattle.ira_order.proofs.OrderPrefixes.{counted_more, rank_more, receives_nothing}
use Rattle.ira_order.proofs.Places.{Ranked}
use Rattle.ira_order.proofs.Bridge.{SendingOf, sending_of, pair_of, covers_consistent}
use Rattle.ira_order.proofs.Runs.{prev_next, prev_below, next_prev}
use Rattle.ira_order.proofs.Acyclic.{before_within, before_own, steady, came_with, known_before, CameWith}
use Rattle.std.proofs.lemmas.Bool.Decides.{nat_tests}
use Rattle.std.proofs.lemmas.Option.{slice_get-get_or, get_or_from_slice_get, slice_get_within}

-- of two receipts of a link, the later one's sending is the later
pub sent_later : (logs : List Log) (k a b c d : ℕ) → IsPair logs k a b → IsPair logs k c d → b ≤ d → a ≤ c
sent_later logs k a b c d first second l = elim (cases_lt c a) [
  | inr fine ↦ fine
  | inl late ↦
      let s : SendingOf (log_of logs k) a = sending_of (log_of logs k) a first.message first.sends in
      absurd (omega (
        arith,
        s.rank,
        first.rank,
        second.rank,
        rank_mono sending (log_of logs k) c s.place (omega (arith, s.number)),
        rank_mono receipt (log_of logs (next (length logs) k)) b d l,
      ))
]

-- an event with its number
pub one_of : (logs : List Log) (k a b : ℕ) → IsPair logs k a b → (1 ≤ a) × (a ≤ length (log_of logs k))
one_of logs k a b pair = (let w = before_within logs k a _ b (message refl pair) in (w.0, w.1))

-- no event is event 0, or before it
pub count_first : (logs : List Log) (j i : ℕ) → IsCount logs j 0 i 0
count_first logs j i = record {
  within = omega arith;
  events = λ a one. (
    λ h. absurd (omega arith),
    λ h. absurd (elim h [
      | inl e ↦ omega (arith, e.1)
      | inr before ↦ (let w = before_within logs i a j 0 before in omega (arith, w.2))
    ]),
  );
}

-- a receipt has its sending
pub sending_before : (logs : List Log) → Matches logs → (k b : ℕ) (m : Load) → k < length logs
    → slice_get (log_of logs (next (length logs) k)) b ≡ Some (Got m) → (a : ℕ) × IsPair logs k a (suc b)
sending_before logs matches k b m lk is =
    let within : b < length (log_of logs (next (length logs) k)) =
    slice_get_within (log_of logs (next (length logs) k)) b (Got m) is in
    let e : get_or (log_of logs (next (length logs) k)) b (Draw 0) ≡ Got m =
    get_or_from_slice_get (log_of logs (next (length logs) k)) b (Got m) (Draw 0) is in
    let rank : Ranked receipt (log_of logs (next (length logs) k)) (suc b)
    (length (got (take b (log_of logs (next (length logs) k))))) (Draw 0) = record {
      place = b;
      below = omega arith;
      rank = refl;
      next_rank = rank_more receipt (log_of logs (next (length logs) k)) b (Draw 0) within
          ∙ ap (λ (x : Event). length (got (take b (log_of logs (next (length logs) k)))) + length
          (cons_option (receipt x) [])) e;
      message = m;
      is = ap receipt e;
    } in
    let p = pair_of logs k (suc b) (length (got (take b (log_of logs (next (length logs) k))))) matches lk (omega arith)
    rank in
    (suc p.0.place, p.1)

module _ (logs : List Log) (order : List ℕ) (o : IsOrder logs order) where
  -- of its own node an event counts its number
  pub count_own : (j b : ℕ) → j < length logs → b ≤ length (log_of logs j) → IsCount logs j b j b
  count_own j b lj l = record {
    within = l;
    events = λ a one. (
      λ h. elim (cases_eq a b) [ inl e ↦ inl (refl, e) | inr ne ↦ inr (own refl lj one (omega arith) l) ],
      λ h. elim h [ inl e ↦ omega (arith, e.1) | inr before ↦ omega (arith, before_own logs order o j a b before) ],
    );
  }

  -- of its own node an event comes after those that it counts, but itself
  pub own_test : (i a j b n : ℕ) → i ≡ j → 1 ≤ a → a ≤ n → IsCount logs j b i n
      → IsTrue (not (nat_eq a b)) ↔ Before logs i a j b
  own_test i a j b n same one l count = (
    λ t. elim ((count.events a one).0 l) [
      | inl e ↦ absurd (let ne : a ≢ b = grind (arith, nat_tests) in ne e.1)
      | inr before ↦ before
    ],
    λ before.
        let before' : Before logs j a j b = rw same at before in
        let less : a < b = before_own logs order o j a b before' in
        grind (arith, nat_tests),
  )

  -- an event that is no receipt counts of the other nodes what the one before it does
  pub count_stays : (j b i n : ℕ) → j < length logs → i ≢ j → suc b ≤ length (log_of logs j)
      → ((m : Load) → numbered (log_of logs j) (suc b) ≡ Some (Got m) → ⊥) → IsCount logs j b i n
      → IsCount logs j (suc b) i n
  count_stays j b i n lj ne l quiet count = record {
    within = count.within;
    events = λ a one. (
      λ h. inr (elim ((count.events a one).0 h) [
        | inl e ↦ absurd (ne e.0)
        | inr before ↦ (let w = before_within logs i a j b before in onward before (own refl lj w.2 (omega arith) l))
      ]),
      λ h. (count.events a one).1 (elim h [
        | inl e ↦ absurd (ne e.0)
        | inr before ↦ inr (steady logs order o i a j b before ne quiet)
      ]),
    );
  }

  -- a receipt counts of the other nodes what its sending does
  pub count_taken : (k a b i n : ℕ) → i ≢ next (length logs) k → IsPair logs k a b → IsCount logs k a i n
      → IsCount logs (next (length logs) k) b i n
  count_taken k a b i n ne pair count = record {
    within = count.within;
    events = λ c one. (
      λ h. inr (known_before logs i c k a (next (length logs) k) b ((count.events c one).0 h) (message refl pair)),
      λ h. (count.events c one).1 (elim h [
        | inl e ↦ absurd (ne e.0)
        | inr before ↦ known c (came_with logs order o i c (next (length logs) k) b before ne)
      ]),
    );
  }
    where
      known : (c : ℕ) → CameWith logs i c (next (length logs) k) b → AtOrBefore logs i c k a
      known c came =
          let at : next (length logs) k < length logs =
          (let z : next (length logs) k < length logs = next_below (length logs) k pair.link in z) in
          let same : came.sender ≡ k =
          prev_next (length logs) (next (length logs) k) came.sender at came.pair.link came.link
          ∙ sym (prev_next (length logs) (next (length logs) k) k at pair.link refl) in
          let pair' : IsPair logs k came.sending came.receipt = rw same at came.pair in
          let known' : AtOrBefore logs i c k came.sending = rw same at came.known in
          let l : came.sending ≤ a = sent_later logs k came.sending came.receipt a b pair' pair came.upto in
          elim (cases_eq came.sending a) [
            | inl e ↦ rw (← e) known'
            | inr other ↦
                let before : Before logs k came.sending k a =
                own refl pair.link (one_of logs k came.sending came.receipt pair').0 (omega arith)
                (one_of logs k a b pair).1 in
                inr (known_before logs i c k came.sending k a known' before)
          ]

  module _ (stamps : List NodeStamps) (at : ℕ → ℕ)
      (matches : Matches logs)
      (covers : Covers logs at)
      (stamped : CountsSent logs stamps at) where
    -- a receipt up to there counts as its sending
    counts_receipt : (k b : ℕ) (m : Load) → k < length logs → suc b ≤ at (next (length logs) k)
        → slice_get (log_of logs (next (length logs) k)) b ≡ Some (Got m)
        → CountsAt logs stamps (next (length logs) k) (suc b)
    counts_receipt k b m lk l is =
        let p = sending_before logs matches k b m lk is in
        stamped k p.0 (suc b) p.1
        (covers_consistent logs at covers k p.0 (next (length logs) k) (suc b) (message refl p.1) l)

    counts_other : (j b : ℕ) (e : Event) → j < length logs → slice_get (log_of logs j) b ≡ Some e
        → ((m : Load) → e ≡ Got m → ⊥) → CountsAt logs stamps j b → CountsAt logs stamps j (suc b)
    counts_other j b e lj is never before i li ne =
        let within : b < length (log_of logs j) = slice_get_within (log_of logs j) b e is in
        let more = counted_more receipt (log_of logs j) b e is in
        let same : receipts_by logs j (suc b) ≡ receipts_by logs j b =
        rw (← add-one b) (more ∙ ap (λ (x : ℕ). receipts_by logs j b + x) (receives_nothing e never)
        ∙ add-zero (receipts_by logs j b)) in
        rw same (count_stays j b i _ lj ne (omega arith) (λ m q. never m (let z : Some e ≡ Some (Got m) = sym is ∙ q in
        cc)) (before i li ne))

    -- where each receipt counts as its sending, each event's counters count
    pub counts_all : (j b : ℕ) → j < length logs → b ≤ at j → b ≤ length (log_of logs j) → CountsAt logs stamps j b
    counts_all j zero lj l within = λ i li ne. count_first logs j i
    counts_all j (suc b) lj l within =
        by_event (get_or (log_of logs j) b (Draw 0)) (slice_get-get_or (log_of logs j) b (Draw 0) (omega arith))
        (counts_all j b lj (omega arith) (omega arith))
      where
        by_event : (e : Event) → slice_get (log_of logs j) b ≡ Some e → CountsAt logs stamps j b
            → CountsAt logs stamps j (suc b)
        by_event (Got m) is before =
            let e : next (length logs) (prev (length logs) j) ≡ j = next_prev (length logs) j lj in
            let is' : slice_get (log_of logs (next (length logs) (prev (length logs) j))) b ≡ Some (Got m) = rw e is in
            rw e at (counts_receipt (prev (length logs) j) b m (prev_below (length logs) j lj) (rw e l) is')
        by_event (Sent m) is before = counts_other j b (Sent m) lj is (λ n q. cc) before
        by_event (Draw m) is before = counts_other j b (Draw m) lj is (λ n q. cc) before
        by_event Yield is before = counts_other j b Yield lj is (λ n q. cc) before
