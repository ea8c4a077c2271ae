-- The sending of a receipt, of logs that match.
use Rattle.std.proofs.Common.{◌≡◌, ℕ, zero, suc, ◌+◌, ◌<◌, ◌≤◌, Option, Some, List, [], ◌∷◌, length, take}
use Rattle.std.proofs.Common.{get_or, refl, sym, ◌∙◌, ap, arith, add-one}
use Rattle.std.specs.Prelude.{slice_get}
use Rattle.std.specs.List.{filter_map, cons_option}
use Rattle.std.proofs.lemmas.List.{take_all}
use Rattle.std.proofs.lemmas.Option.{slice_get-get_or, slice_get_within, get_or_from_slice_get}
use Rattle.ira_event.specs.declared.load.Load.{Load}
use Rattle.ira_event.specs.declared.event.Event.{Event}
use Rattle.ira_event.specs.declared.event.Event.TheVariants.{Draw, Sent, Got}
use Rattle.ira_event.specs.Log.{Log}
use Rattle.ira_event.specs.Messages.{sending, receipt, sent, got}
use Rattle.ira_order.specs.Matching.{Matches}
use Rattle.ira_order.specs.Order.{IsPair}
use Rattle.ira_order.specs.Ring.{log_of, next, numbered}
use Rattle.ira_order.proofs.OrderPrefixes.{rank_more}
use Rattle.ira_order.proofs.Pairing.{numbered-within}
use Rattle.ira_order.proofs.Places.{Ranked, ranked, is_sending}
use Rattle.ira_order.proofs.Runs.{load_at, load_before}

-- ---- the loads of a log

-- and with event a there is one more
rank_after : (load : Event → Option Load) (es : List Event) (a : ℕ) (e : Event) (l : Load) → slice_get es a ≡ Some e
    → load e ≡ Some l → length (filter_map load (take (suc a) es)) ≡ length (filter_map load (take a es)) + 1
rank_after load es a e l at is =
    let here : get_or es a e ≡ e = get_or_from_slice_get es a e e at in
    rw (← add-one a) (rank_more load es a e (slice_get_within es a e at))
    ∙ ap (λ x. length (filter_map load (take a es)) + length (cons_option x [])) (ap load here ∙ is)

-- two lists of one length, the second with each member of the first
one_list : (xs ys : List Load) → length xs ≡ length ys
    → ((k : ℕ) (l : Load) → k ≤ length xs → numbered xs k ≡ Some l → numbered ys k ≡ Some l) → xs ≡ ys
one_list [] [] e h = refl
one_list [] (y ∷ ys) e h = absurd (omega arith)
one_list (x ∷ xs) [] e h = absurd (omega arith)
one_list (x ∷ xs) (y ∷ ys) e h =
    let first : Some y ≡ Some x = h 1 x (omega arith) refl in
    let same : x ≡ y = cc in
    let rest : xs ≡ ys = one_list xs ys (omega arith) (rest_has xs ys h) in
    cc
  where
    rest_has : (xs ys : List Load)
        → ((k : ℕ) (l : Load) → k ≤ length (x ∷ xs) → numbered (x ∷ xs) k ≡ Some l → numbered (y ∷ ys) k ≡ Some l)
        → (k : ℕ) (l : Load) → k ≤ length xs → numbered xs k ≡ Some l → numbered ys k ≡ Some l
    rest_has xs ys h zero l low is = is
    rest_has xs ys h (suc k) l low is = h (suc (suc k)) l (omega arith) is

-- ---- the sending of a receipt

-- event a of node i sends what event b of the next node receives, and before the two the one sent what the other
-- received
pub record HasSending (logs : List Log) (i b : ℕ) (l : Load) : Type 0 where
  pub a : ℕ
  pub sends : slice_get (log_of logs i) a ≡ Some (Sent l)
  pub before : got (take b (log_of logs (next (length logs) i))) ≡ sent (take a (log_of logs i))
  pub pair : IsPair logs i (suc a) (suc b)

-- the sending whose number is that of the receipt
numbered_sending : (es : List Event) (r : ℕ) (l : Load) → numbered (sent es) (suc r) ≡ Some l
    → Ranked sending es (length es) r (Draw 0)
numbered_sending es r l is =
    let whole : take (length es) es ≡ es = take_all (length es) es (omega arith) in
    ranked sending es (length es) r (Draw 0) (omega arith)
    (rw whole (omega (arith, numbered-within (sent es) (suc r) l is)))

pub has_sending : (logs : List Log) (i b : ℕ) (l : Load) → Matches logs → i < length logs
    → slice_get (log_of logs (next (length logs) i)) b ≡ Some (Got l) → HasSending logs i b l
has_sending logs i b l matches here at =
    let writer = log_of logs i in
    let reader = log_of logs (next (length logs) i) in
    let rank = length (got (take b reader)) in
    let is_sent : numbered (sent writer) (suc rank) ≡ Some l =
    matches i here (suc rank) l (load_at receipt reader b (Got l) l at refl) in
    let r : Ranked sending writer (length writer) rank (Draw 0) = numbered_sending writer rank l is_sent in
    let event : get_or writer r.place (Draw 0) ≡ Sent r.message =
    is_sending (get_or writer r.place (Draw 0)) r.message r.is in
    let there : slice_get writer r.place ≡ Some (Sent r.message) =
    slice_get-get_or writer r.place (Draw 0) r.below ∙ ap Some event in
    let is_put : numbered (sent writer) (suc rank) ≡ Some r.message =
    rw r.rank at (load_at sending writer r.place (Sent r.message) r.message there refl) in
    let same : r.message ≡ l = cc in
    record {
      a = r.place;
      sends = there ∙ ap (λ x. Some (Sent x)) same;
      before = one_list (got (take b reader)) (sent (take r.place writer)) (sym r.rank) (λ k m low is.
          sym (load_before sending writer r.place k (omega (arith, r.rank)))
          ∙ matches i here k m (load_before receipt reader b k low ∙ is));
      pair = record {
        message = r.message;
        taken = l;
        link = here;
        sends = there;
        receives = at;
        rank = omega (
          arith,
          rank_after sending writer r.place (Sent r.message) r.message there refl,
          r.rank,
          rank_after receipt reader b (Got l) l at refl,
        );
      };
    }
