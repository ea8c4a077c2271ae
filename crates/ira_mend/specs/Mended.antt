-- What mending the logs of a ring gives.
use Rattle.std.specs.Prelude.{◌≡◌, ℕ, List, Result, Ok, Err, ⊤}
use Rattle.ira_event.specs.Log.{Log}
use Rattle.ira_order.specs.declared.match_fault.MatchFault.{MatchFault}
use Rattle.ira_order.specs.declared.match_fault.MatchFault.TheVariants.{Differs}
use Rattle.ira_order.specs.MatchFault.{IsMatchFault}
use Rattle.ira_order.specs.Matching.{Matches}
use Rattle.ira_mend.specs.Beginning.{AreBegun, IsGreatestBeginning}
use Rattle.ira_mend.specs.declared.mend_fault.MendFault.{MendFault}
use Rattle.ira_mend.specs.declared.mend_fault.MendFault.TheVariants.{Match, OutOfMemory}

-- the greatest consistent beginning of the logs
pub record IsGreatestOf (logs beginnings : List Log) : Type 0 where
  pub cut : List ℕ
  pub greatest : IsGreatestBeginning logs cut
  pub begun : AreBegun logs cut beginnings

-- the greatest consistent beginning of the logs, and it matches
pub record AreMended (logs mended : List Log) : Type 0 where
  pub greatest : IsGreatestOf logs mended
  pub matches : Matches mended

-- in the greatest consistent beginning a receipt is of another load than its sending: the first of the first such link
pub record HasDifference (logs : List Log) (f : MatchFault) : Type 0 where
  pub beginnings : List Log
  pub greatest : IsGreatestOf logs beginnings
  pub link : ℕ
  pub receipt : ℕ
  pub differs : f ≡ Differs link receipt
  pub fault : IsMatchFault beginnings f

-- the logs were mended; or they have a difference; or memory ran out
abbrev pub IsMending : List Log → Result (List Log) MendFault → Type 0
IsMending logs (Ok mended) = AreMended logs mended
IsMending logs (Err (Match f)) = HasDifference logs f
IsMending logs (Err OutOfMemory) = ⊤
