-- What is wrong with a link.
use Rattle.std.specs.Prelude.{◌≡◌, ◌≢◌, ℕ, List, Option, Some, None}
use Rattle.ira_event.specs.Log.{Log}
use Rattle.ira_order.specs.declared.match_fault.MatchFault.{MatchFault}
use Rattle.ira_order.specs.declared.match_fault.MatchFault.TheVariants.{NoSending, Differs}
use Rattle.ira_view_evidence.specs.declared.exchange.Exchange.{Exchange}
use Rattle.ira_view_evidence.specs.declared.link_evidence.LinkEvidence.{LinkEvidence}
use Rattle.ira_view_evidence.specs.Exchange.{IsNthSending, IsNthReceipt}

-- the sending is sending k of the link, of another load than the receipt
abbrev pub IsOtherSending : List Log → ℕ → ℕ → Exchange → Option Exchange → Type 0
IsOtherSending logs link k receipt None = ⊥
IsOtherSending logs link k receipt (Some x) = IsNthSending logs link k x × (x.load ≢ receipt.load)

-- the receipt that the fault names; and no sending where the link has none of that number, else the sending of that
-- number, which is of another load
abbrev pub IsLinkEvidence : List Log → MatchFault → LinkEvidence → Type 0
IsLinkEvidence logs (NoSending link k) e = IsNthReceipt logs link k e.receipt × (e.sending ≡ None)
IsLinkEvidence logs (Differs link k) e =
    IsNthReceipt logs link k e.receipt × IsOtherSending logs link k e.receipt e.sending
