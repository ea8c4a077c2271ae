-- The k-th event of its kind in a log, counted along it.
use Rattle.std.proofs.Common.{◌≡◌, ℕ, zero, suc, ◌+◌, ◌<◌, List, [], Option, Some, None, length, refl, ◌∙◌}
use Rattle.std.proofs.Common.{ap, arith, take, drop, add-one}
use Rattle.std.specs.Prelude.{MatchOption, slice_get}
use Rattle.std.proofs.lemmas.List.{take_all}
use Rattle.std.specs.List.{filter_map, cons_option}
use Rattle.ira_event.specs.declared.event.Event.{Event}
use Rattle.ira_event.specs.declared.event.Event.TheVariants.{Got, Sent}
use Rattle.ira_event.specs.declared.load.Load.{Load}
use Rattle.ira_order.specs.Matching.{got, receipt, sending, sent}
use Rattle.ira_event.specs.Log.{Log}
use Rattle.ira_order.specs.Ring.{log_of, next, numbered}
use Rattle.ira_order.proofs.OrderPrefixes.{counted_more}
use Rattle.ira_order.proofs.Pairing.{numbered-past}
use Rattle.ira_order.proofs.Receipts.{none_ahead}
use Rattle.ira_order.proofs.Places.{is_receipt, is_sending}
use Rattle.ira_order.proofs.Runs.{load_at}
use Rattle.ira_view_evidence.specs.declared.exchange.Exchange.{Exchange}
use Rattle.ira_view_evidence.specs.Exchange.{IsNth, IsNthGot, IsNthReceipt, IsNthSending, IsNthSent}

-- there is no k-th of fewer
none_numbered : (xs : List Load) (k : ℕ) → (0 < k → length xs < k) → numbered xs k ≡ None
none_numbered xs zero fewer = refl
none_numbered xs (suc k) fewer = numbered-past xs (suc k) (fewer (omega arith))

-- nor after all events
pub none_left : (h : Event → Option Load) (es : List Event) (n k rank : ℕ) → [] ≡ drop n es
    → rank ≡ length (filter_map h (take n es)) → (0 < k → rank < k) → numbered (filter_map h es) k ≡ None
none_left h es n k rank end is fewer =
    let all : length (filter_map h (take n es)) ≡ length (filter_map h es) =
    ap (λ xs. length (filter_map h xs)) (take_all n es (none_ahead es n end)) in
    none_numbered (filter_map h es) k (λ some. omega (arith, all, is, fewer some))

-- an event with its number, counted from 1
pub at_number : (es : List Event) (n : ℕ) (e : Event) → slice_get es n ≡ Some e → numbered es (n + 1) ≡ Some e
at_number es n e is = rw (add-one n) is

-- an event that has a load, as the k-th
pub nth : (h : Event → Option Load) (i : ℕ) (es : List Event) (n k : ℕ) (e : Event) (x : Load) → slice_get es n ≡ Some e
    → h e ≡ Some x → k ≡ length (filter_map h (take n es)) + 1
    → IsNth h i es k (record { at = record { place = i; position = n + 1 }; load = x })
nth h i es n k e x is has number =
    let at : numbered (filter_map h es) (suc (length (filter_map h (take n es)))) ≡ Some x =
    load_at h es n e x is has in
    let count : k ≡ suc (length (filter_map h (take n es))) = omega (arith, number) in
    let one : length (cons_option (h e) []) ≡ 1 = ap (λ o. length (cons_option o [])) has in
    record {
      place = refl;
      event = e;
      stands = at_number es n e is;
      has = has;
      rank = omega (arith, counted_more h es n e is, one, number);
      load_is = ap (numbered (filter_map h es)) count ∙ at;
    }

-- one that sends
pub sends_nth : (i : ℕ) (es : List Event) (k : ℕ) (x : Exchange) → IsNth sending i es k x
    → IsNthSent es k x.at.position x.load
sends_nth i es k x is = record {
  event = is.stands ∙ ap Some (is_sending is.event x.load is.has);
  rank = is.rank;
  load_is = is.load_is;
}

pub nth_sent : (es : List Event) (n k : ℕ) (x : Load) → slice_get es n ≡ Some (Sent x)
    → k ≡ length (sent (take n es)) + 1 → IsNthSent es k (n + 1) x
nth_sent es n k x is number = sends_nth 0 es k _ (nth sending 0 es n k (Sent x) x is refl number)

-- one that receives
pub gets_nth : (i : ℕ) (es : List Event) (k : ℕ) (x : Exchange) → IsNth receipt i es k x
    → IsNthGot es k x.at.position x.load
gets_nth i es k x is = record {
  event = is.stands ∙ ap Some (is_receipt is.event x.load is.has);
  rank = is.rank;
  load_is = is.load_is;
}

pub nth_got : (es : List Event) (n k : ℕ) (x : Load) → slice_get es n ≡ Some (Got x) → k ≡ length (got (take n es)) + 1
    → IsNthGot es k (n + 1) x
nth_got es n k x is number = gets_nth 0 es k _ (nth receipt 0 es n k (Got x) x is refl number)

-- what is found in a log is the link's
pub found_sending : (logs : List Log) (link k : ℕ) (log : Log) (found : Option Exchange) → slice_get logs link ≡ Some log
    → MatchOption found (numbered (sent log.events) k ≡ None) (IsNth sending link log.events k)
    → MatchOption found (numbered (sent (log_of logs link)) k ≡ None) (IsNthSending logs link k)
found_sending logs link k log None at none = rw at none
found_sending logs link k log (Some x) at is = (is.place, rw at (sends_nth link log.events k x is))

pub found_receipt : (logs : List Log) (link place k : ℕ) (log : Log) (found : Option Exchange)
    → place ≡ next (length logs) link → slice_get logs place ≡ Some log
    → MatchOption found (numbered (got log.events) k ≡ None) (IsNth receipt place log.events k)
    → MatchOption found (numbered (got (log_of logs (next (length logs) link))) k ≡ None) (IsNthReceipt logs link k)
found_receipt logs link place k log None to at none = rw (← to, at) none
found_receipt logs link place k log (Some x) to at is =
    (is.place ∙ to, rw (← to, at) (gets_nth place log.events k x is))
