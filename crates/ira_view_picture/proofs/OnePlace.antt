-- The k-th sending and the k-th receipt of a link each have one place.
use Rattle.std.proofs.Common.{◌≡◌, ℕ, zero, suc, ◌+◌, ◌<◌, inl, inr, List, [], Option, Some, None, length, refl}
use Rattle.std.proofs.Common.{sym, ◌∙◌, ap, arith, take, add-one}
use Rattle.std.specs.List.{filter_map, cons_option}
use Rattle.std.specs.Option.{option_map}
use Rattle.std.proofs.lemmas.Bool.{cases_lt}
use Rattle.ira_event.specs.declared.event.Event.{Event}
use Rattle.ira_event.specs.declared.event.Event.TheVariants.{Got, Sent}
use Rattle.ira_event.specs.declared.load.Load.{Load}
use Rattle.ira_event.specs.Log.{Log}
use Rattle.ira_order.specs.Matching.{receipt, sending}
use Rattle.ira_order.specs.Ring.{log_of, next, numbered}
use Rattle.ira_order.proofs.Ranks.{rank_mono}
use Rattle.ira_view_evidence.specs.declared.exchange.Exchange.{Exchange}
use Rattle.ira_view_evidence.specs.Exchange.{IsNthGot, IsNthSent}
use Rattle.ira_order.proofs.OrderPrefixes.{counted_more}
use Rattle.ira_view_picture.specs.Arrow.{IsReceipt, IsReceivedAt, IsSending, IsSentAt, column_of}

-- an event that is counted has more up to it than an earlier one
later_rank : (h : Event → Option Load) (es : List Event) (p q : ℕ) (e : Event) (x : Load) → p < q
    → numbered es q ≡ Some e → h e ≡ Some x
    → length (filter_map h (take p es)) < length (filter_map h (take q es))
later_rank h es p zero e x less at has = absurd (omega (arith, less))
later_rank h es p (suc n) e x less at has =
    let one : length (cons_option (h e) []) ≡ 1 = ap (λ (o : Option Load). length (cons_option o [])) has in
    let more : length (filter_map h (take (suc n) es))
    ≡ length (filter_map h (take n es)) + length (cons_option (h e) []) = rw add-one at (counted_more h es n e at) in
    omega (arith, one, more, rank_mono h es p n (omega (arith, less)))

one_rank : (h : Event → Option Load) (es : List Event) (p q : ℕ) (e f : Event) (x y : Load)
    → numbered es p ≡ Some e → h e ≡ Some x → numbered es q ≡ Some f → h f ≡ Some y
    → length (filter_map h (take p es)) ≡ length (filter_map h (take q es)) → p ≡ q
one_rank h es p q e f x y at_p has_p at_q has_q same = elim (cases_lt p q) [
  | inl less ↦ absurd (omega (arith, same, later_rank h es p q f y less at_q has_q))
  | inr no_less ↦ elim (cases_lt q p) [
    | inl less ↦ absurd (omega (arith, same, later_rank h es q p e x less at_p has_p))
    | inr no_more ↦ omega (arith, no_less, no_more)
  ]
]

one_sent : (es : List Event) (k p q : ℕ) (x y : Load) → IsNthSent es k p x → IsNthSent es k q y → p ≡ q
one_sent es k p q x y a b =
    one_rank sending es p q (Sent x) (Sent y) x y a.event refl b.event refl (a.rank ∙ sym b.rank)

one_got : (es : List Event) (k p q : ℕ) (x y : Load) → IsNthGot es k p x → IsNthGot es k q y → p ≡ q
one_got es k p q x y a b =
    one_rank receipt es p q (Got x) (Got y) x y a.event refl b.event refl (a.rank ∙ sym b.rank)

module _ (logs : List Log) (table : List (List ℕ)) (link k : ℕ) where
  pub one_sending : (s t : Option Exchange) → IsSending logs link k s → IsSending logs link k t
      → option_map (column_of table) s ≡ option_map (column_of table) t
  one_sending None None is so = refl
  one_sending None (Some y) is so = (let there = so.1.load_is in absurd cc)
  one_sending (Some x) None is so = (let there = is.1.load_is in absurd cc)
  one_sending (Some x) (Some y) is so =
      let place = is.0 ∙ sym so.0 in
      let position = one_sent (log_of logs link) k x.at.position y.at.position x.load y.load is.1 so.1 in
      cc

  pub one_sent_at : (from : Option ℕ) (s : Option Exchange) → IsSentAt logs table link k from → IsSending logs link k s
      → from ≡ option_map (column_of table) s
  one_sent_at None s at is = one_sending None s at is
  one_sent_at (Some c) s at is = ap Some at.2 ∙ one_sending (Some at.0) s at.1 is

  pub one_receipt : (r t : Option Exchange) → IsReceipt logs link k r → IsReceipt logs link k t
      → option_map (column_of table) r ≡ option_map (column_of table) t
  one_receipt None None is so = refl
  one_receipt None (Some y) is so = (let there = so.1.load_is in absurd cc)
  one_receipt (Some x) None is so = (let there = is.1.load_is in absurd cc)
  one_receipt (Some x) (Some y) is so =
      let place = is.0 ∙ sym so.0 in
      let position = one_got (log_of logs (next (length logs) link)) k x.at.position y.at.position x.load y.load is.1
      so.1 in
      cc

  pub one_received_at : (to : Option ℕ) (r : Option Exchange) → IsReceivedAt logs table link k to
      → IsReceipt logs link k r → to ≡ option_map (column_of table) r
  one_received_at None r at is = one_receipt None r at is
  one_received_at (Some c) r at is = ap Some at.2 ∙ one_receipt (Some at.0) r at.1 is
