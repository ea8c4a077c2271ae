-- The sendings of a log, gathered from its front.
use Rattle.std.proofs.Common.{◌≡◌, ℕ, ◌+◌, ◌≤◌, inl, inr, List, [], ◌∷◌, ◌++◌, length, ◌∙◌}
use Rattle.std.proofs.Common.{ap, subst, arith, take, Some, add-one, length-append}
use Rattle.std.specs.Prelude.{slice_get}
use Rattle.std.proofs.lemmas.List.{take_all}
use Rattle.ira_event.specs.declared.event.Event.{Event}
use Rattle.ira_event.specs.declared.event.Event.TheVariants.{Sent}
use Rattle.ira_event.specs.declared.load.Load.{Load}
use Rattle.ira_order.specs.declared.node_dependencies.Sending.{Sending}
use Rattle.ira_order.specs.Matching.{sent, got, sending, receipt}
use Rattle.ira_order.specs.DirectDependencies.{IsSending, AreSendings}
use Rattle.ira_order.proofs.OrderPrefixes.{counted_more, sends_nothing}
use Rattle.ira_order.proofs.Pushed.{found_in_push}

-- the sendings among the first n events
pub record HasSendings (es : List Event) (n : ℕ) (sendings : List Sending) : Type 0 where
  pub count : length sendings ≡ length (sent (take n es))
  pub each : (r : ℕ) (s : Sending) → slice_get sendings r ≡ Some s → IsSending es r s

pub sending_over : (es : List Event) (n : ℕ) (e : Event) (sendings : List Sending) → slice_get es n ≡ Some e
    → ((m : Load) → e ≡ Sent m → ⊥) → HasSendings es n sendings → HasSendings es (n + 1) sendings
sending_over es n e sendings is never h = record {
  count = omega (arith, h.count, counted_more sending es n e is, sends_nothing e never);
  each = h.each;
}

pub sending_more : (es : List Event) (n : ℕ) (m : Load) (s : Sending) (sendings : List Sending)
    → slice_get es n ≡ Some (Sent m) → s.number ≡ n + 1 → s.received ≡ length (got (take n es))
    → HasSendings es n sendings → HasSendings es (n + 1) (sendings ++ s ∷ [])
sending_more es n m s sendings is number received h = record {
  count = omega (arith, length-append sendings (s ∷ []), h.count, one_more);
  each = λ r t at. elim (found_in_push sendings s r t at) [
    | inl old ↦ h.each r t old
    | inr new ↦
        let here = new.0 in
        subst (IsSending es r) new.1 record {
          message = m;
          sends = rw (number, add-one) is;
          rank = rw number (omega (arith, one_more, here, h.count));
          received = rw number (omega (arith, received, counted_more receipt es n (Sent m) is));
        }
  ];
}
  where
    one_more : length (sent (take (n + 1) es)) ≡ length (sent (take n es)) + 1
    one_more = counted_more sending es n (Sent m) is

pub sendings_end : (es : List Event) (n : ℕ) (sendings : List Sending) → length es ≤ n → HasSendings es n sendings
    → AreSendings es sendings
sendings_end es n sendings past h =
    record { count = h.count ∙ ap (λ x. length (sent x)) (take_all n es past); each = h.each }
