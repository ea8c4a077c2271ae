use Rattle.std.proofs.Common.{ap, arith, length}
use Rattle.ira_event.specs.Log.{Log}
use Rattle.ira_cand.proofs.profile.Profile.sends_after.Goals as goal

pub overflow_add-count : goal.overflow_add-count
overflow_add-count g c =
    let few = c.self.invariant.few in
    let same = ap (λ (log : Log). length log.events) c.self.view_is in omega (arith, few, same)
