-- Events of a log by their numbers, counted from 1.
use Rattle.std.proofs.Common.{◌≡◌, ◌∙◌, ℕ, zero, suc, ◌-◌, ◌<◌, ◌≤◌, List, Some, None, length, refl, sym, ap, subst}
use Rattle.std.proofs.Common.{arith}
use Rattle.std.specs.Prelude.{slice_get}
use Rattle.std.specs.Option.{option_and_then}
use Rattle.std.proofs.lemmas.Option.{slice_get_past}
use Rattle.ira_event.specs.declared.event.Event.{Event}
use Rattle.ira_event.specs.declared.load.Load.{Load}
use Rattle.ira_event.specs.Log.{Log}
use Rattle.ira_order.specs.Ring.{events_of, log_of, numbered}
use Rattle.ira_view_evidence.specs.Exchange.{IsNthGot, IsNthSent}
use Rattle.ira_view_picture.specs.Arrow.{load_in}

pub numbered_at : (es : List Event) (p : ℕ) (e : Event) → 1 ≤ p → slice_get es (p - 1) ≡ Some e → numbered es p ≡ Some e
numbered_at es zero e few at = absurd (omega (arith, few))
numbered_at es (suc k) e few at = (let back : suc k - 1 ≡ k = omega arith in rw back at at)

pub numbered_none : (es : List Event) (p : ℕ) → length es < p → numbered es p ≡ None
numbered_none es zero past = refl
numbered_none es (suc k) past = slice_get_past es k (omega (arith, past))

pub numbered_zero : (es : List Event) (p : ℕ) → p < 1 → numbered es p ≡ None
numbered_zero es zero less = refl
numbered_zero es (suc k) less = absurd (omega (arith, less))

-- what the k-th event that sends or receives carries is the load that is read there
pub sent_read : (logs : List Log) (i : ℕ) (log : Log) (k p : ℕ) (x load : Load) → slice_get logs i ≡ Some log
    → IsNthSent log.events k p x → Some load ≡ option_and_then load_in (numbered (log_of logs i) p)
    → IsNthSent (log_of logs i) k p load
sent_read logs i log k p x load at nth read =
    let here : IsNthSent (log_of logs i) k p x = subst (λ es. IsNthSent es k p x) (sym (ap events_of at)) nth in
    let same : Some load ≡ Some x = read ∙ ap (option_and_then load_in) here.event in
    let equal : x ≡ load = cc in
    subst (IsNthSent (log_of logs i) k p) equal here

pub got_read : (logs : List Log) (i : ℕ) (log : Log) (k p : ℕ) (x load : Load) → slice_get logs i ≡ Some log
    → IsNthGot log.events k p x → Some load ≡ option_and_then load_in (numbered (log_of logs i) p)
    → IsNthGot (log_of logs i) k p load
got_read logs i log k p x load at nth read =
    let here : IsNthGot (log_of logs i) k p x = subst (λ es. IsNthGot es k p x) (sym (ap events_of at)) nth in
    let same : Some load ≡ Some x = read ∙ ap (option_and_then load_in) here.event in
    let equal : x ≡ load = cc in
    subst (IsNthGot (log_of logs i) k p) equal here
