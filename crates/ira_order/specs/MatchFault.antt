-- Why logs don't match.
use Rattle.std.specs.Prelude.{◌≡◌, ◌≢◌, ℕ, ◌<◌, List, Some, None, length}
use Rattle.ira_event.specs.declared.load.Load.{Load}
use Rattle.ira_event.specs.declared.event.Event.{Event}
use Rattle.ira_event.specs.Log.{Log}
use Rattle.ira_order.specs.declared.match_fault.MatchFault.{MatchFault}
use Rattle.ira_order.specs.declared.match_fault.MatchFault.TheVariants.{NoSending, Differs}
use Rattle.ira_order.specs.Ring.{next, log_of, numbered}
use Rattle.ira_order.specs.Matching.{sent, got, IsPaired, LinkMatches}

-- there is a k-th receipt and no k-th sending
abbrev pub HasNoSending : List Event → List Event → ℕ → Type 0
HasNoSending writer reader k = (m : Load) × (numbered (got reader) k ≡ Some m) × (numbered (sent writer) k ≡ None)

-- the k-th receipt and the k-th sending are of different loads
abbrev pub HasOther : List Event → List Event → ℕ → Type 0
HasOther writer reader k = (m n : Load) × (numbered (got reader) k ≡ Some m) × (numbered (sent writer) k ≡ Some n)
    × (m ≢ n)

-- the fault is of the link i from the writer to the reader, and of its least receipt that isn't paired
abbrev pub IsLinkFault : ℕ → List Event → List Event → MatchFault → Type 0
IsLinkFault i writer reader (NoSending link k) = (link ≡ i) × ((h : ℕ) → h < k → IsPaired writer reader h)
    × HasNoSending writer reader k
IsLinkFault i writer reader (Differs link k) = (link ≡ i) × ((h : ℕ) → h < k → IsPaired writer reader h)
    × HasOther writer reader k

-- the fault is that of the least link that doesn't match
abbrev pub IsMatchFault : List Log → MatchFault → Type 0
IsMatchFault logs f = (i : ℕ) × (i < length logs) × ((j : ℕ) → j < i → LinkMatches logs j)
    × IsLinkFault i (log_of logs i) (log_of logs (next (length logs) i)) f
