-- The two sides of a fault of matching.
use Rattle.std.proofs.Common.{◌≡◌, ℕ, ◌<◌, List, Option, Some, None, length, sym, subst}
use Rattle.std.specs.Prelude.{MatchOption}
use Rattle.ira_event.specs.Log.{Log}
use Rattle.ira_order.specs.declared.match_fault.MatchFault.TheVariants.{NoSending, Differs}
use Rattle.ira_order.specs.Matching.{got, sent}
use Rattle.ira_order.specs.MatchFault.{HasNoSending, HasOther, IsLinkFault, IsMatchFault}
use Rattle.ira_order.specs.Ring.{log_of, next, numbered}
use Rattle.ira_view_evidence.specs.Exchange.{IsNthReceipt, IsNthSending}
use Rattle.ira_view_evidence.specs.LinkEvidence.{IsOtherSending}
use Rattle.ira_view_evidence.specs.declared.exchange.Exchange.{Exchange}

-- a receipt without a sending is one of its link
pub missing_side : (logs : List Log) (link k : ℕ) → IsMatchFault logs (NoSending link k) → (link < length logs)
    × HasNoSending (log_of logs link) (log_of logs (next (length logs) link)) k
missing_side logs link k h =
    let f : IsLinkFault h.0 (log_of logs h.0) (log_of logs (next (length logs) h.0)) (NoSending link k) = h.3 in
    let P : ℕ → Type 0 = λ i. (i < length logs) × HasNoSending (log_of logs i) (log_of logs (next (length logs) i)) k in
    subst P (sym f.0) (h.1, f.2)

-- so is one that differs from its sending
pub other_side : (logs : List Log) (link k : ℕ) → IsMatchFault logs (Differs link k) → (link < length logs)
    × HasOther (log_of logs link) (log_of logs (next (length logs) link)) k
other_side logs link k h =
    let f : IsLinkFault h.0 (log_of logs h.0) (log_of logs (next (length logs) h.0)) (Differs link k) = h.3 in
    let P : ℕ → Type 0 = λ i. (i < length logs) × HasOther (log_of logs i) (log_of logs (next (length logs) i)) k in
    subst P (sym f.0) (h.1, f.2)

-- what was found as sending k is of another load
pub other_found : (logs : List Log) (link k : ℕ) (receipt : Exchange) (found : Option Exchange)
    → HasOther (log_of logs link) (log_of logs (next (length logs) link)) k → IsNthReceipt logs link k receipt
    → MatchOption found (numbered (sent (log_of logs link)) k ≡ None) (IsNthSending logs link k)
    → IsOtherSending logs link k receipt found
other_found logs link k receipt None other is none =
    let some : numbered (sent (log_of logs link)) k ≡ Some other.1 = other.3 in
    absurd cc
other_found logs link k receipt (Some x) other is sending =
    let received : numbered (got (log_of logs (next (length logs) link))) k ≡ Some receipt.load = is.1.load_is in
    let sends : numbered (sent (log_of logs link)) k ≡ Some x.load = sending.1.load_is in
    let m : numbered (got (log_of logs (next (length logs) link))) k ≡ Some other.0 = other.2 in
    let n : numbered (sent (log_of logs link)) k ≡ Some other.1 = other.3 in
    (sending, λ same. other.4 (let e : other.0 ≡ other.1 = cc in e))
