use Rattle.std.proofs.Common.{All, List, subst}
use Rattle.ira_event.specs.Log.{Log}
use Rattle.ira_cert.specs.SharedTable.{IsTableOf}
use Rattle.ira_cert.proofs.profiles.Profiles.new.Goals as goal

pub invariant_of-result : goal.invariant_of-result
invariant_of-result g c =
    subst (λ (logs : List Log). All (IsTableOf logs) c.in_ok-shared.shared.items) c.deref.ensures.value
    c.in_ok-shared.ensures
