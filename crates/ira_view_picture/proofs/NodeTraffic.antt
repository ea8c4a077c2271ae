-- What a node sends and receives, counted along its log.
use Rattle.std.proofs.Common.{◌≡◌, ℕ, ◌+◌, [], ◌∷◌, ◌++◌, Option, Some, None, length, refl, sym, ap, subst, arith}
use Rattle.std.specs.Prelude.{slice_get}
use Rattle.std.specs.List.{cons_option}
use Rattle.std.proofs.lemmas.List.{length_push}
use Rattle.ira_event.specs.declared.event.Event.{Event}
use Rattle.ira_event.specs.declared.event.Event.TheVariants.{Got, Sent}
use Rattle.ira_event.specs.declared.load.Load.{Load}
use Rattle.ira_event.specs.Log.{Log}
use Rattle.ira_order.specs.Matching.{receipt, sending}
use Rattle.ira_view_evidence.specs.Exchange.{IsNthGot, IsNthSent}
use Rattle.ira_order.proofs.OrderPrefixes.{counted_more}
use Rattle.ira_order.proofs.Pushed.{each_pushed}
use Rattle.ira_view_evidence.proofs.Counted.{nth_got, nth_sent}
use Rattle.ira_view_picture.specs.declared.traffic.Receipt.{Receipt}
use Rattle.ira_view_picture.specs.Traffic.{IsEffect, IsTraffic, Traffic}

module _ (log : Log) (n : ℕ) (t : Traffic) (is : IsTraffic log n t) where
  pub sent_more : (p : ℕ) (x : Load) → slice_get log.events n ≡ Some (Sent x) → p ≡ n + 1
      → IsTraffic log (n + 1) (record { sendings = t.sendings ++ p ∷ []; receipts = t.receipts })
  sent_more p x at here =
      let nth : IsNthSent log.events (length t.sendings + 1) (n + 1) x =
      nth_sent log.events n (length t.sendings + 1) x at (omega (arith, is.sent_count)) in
      let last : (y : Load) × IsNthSent log.events (length t.sendings + 1) p y =
      (x, subst (λ q. IsNthSent log.events (length t.sendings + 1) q x) (sym here) nth) in
      record {
        sent_count = omega (
          arith,
          is.sent_count,
          length_push t.sendings p,
          counted_more sending log.events n (Sent x) at,
        );
        sent_each = each_pushed (λ k q. (y : Load)
            × IsNthSent log.events (k + 1) q y) t.sendings (length t.sendings) p refl is.sent_each last;
        got_count = omega (arith, is.got_count, counted_more receipt log.events n (Sent x) at);
        got_each = is.got_each;
        effects = is.effects;
      }

  pub got_more : (r : Receipt) (x : Load) → slice_get log.events n ≡ Some (Got x) → r.position ≡ n + 1
      → IsEffect log r.position r.effect
      → IsTraffic log (n + 1) (record { sendings = t.sendings; receipts = t.receipts ++ r ∷ [] })
  got_more r x at here effect =
      let nth : IsNthGot log.events (length t.receipts + 1) (n + 1) x =
      nth_got log.events n (length t.receipts + 1) x at (omega (arith, is.got_count)) in
      let last : (y : Load) × IsNthGot log.events (length t.receipts + 1) r.position y =
      (x, subst (λ q. IsNthGot log.events (length t.receipts + 1) q x) (sym here) nth) in
      record {
        sent_count = omega (arith, is.sent_count, counted_more sending log.events n (Got x) at);
        sent_each = is.sent_each;
        got_count = omega (
          arith,
          is.got_count,
          length_push t.receipts r,
          counted_more receipt log.events n (Got x) at,
        );
        got_each = each_pushed (λ k q. (y : Load)
            × IsNthGot log.events (k + 1) q.position y) t.receipts (length t.receipts) r refl is.got_each last;
        effects = each_pushed (λ k q. IsEffect log q.position q.effect) t.receipts (length t.receipts) r refl is.effects
            effect;
      }

  pub neither_more : (e : Event) → slice_get log.events n ≡ Some e → sending e ≡ None → receipt e ≡ None
      → IsTraffic log (n + 1) t
  neither_more e at no_sending no_receipt =
      let s = counted_more sending log.events n e at in
      let r = counted_more receipt log.events n e at in
      let no_s : length (cons_option (sending e) []) ≡ 0 =
      ap (λ (o : Option Load). length (cons_option o [])) no_sending in
      let no_r : length (cons_option (receipt e) []) ≡ 0 =
      ap (λ (o : Option Load). length (cons_option o [])) no_receipt in
      record {
        sent_count = omega (arith, is.sent_count, s, no_s);
        sent_each = is.sent_each;
        got_count = omega (arith, is.got_count, r, no_r);
        got_each = is.got_each;
        effects = is.effects;
      }
