use Rattle.std.proofs.Common.{List, subst, sym}
use Rattle.ira_event.specs.Log.{Log}
use Rattle.ira_audit.specs.GoodLogs.{AreGood}
use Rattle.ira_view_explain_question.proofs.asked_ring.AskedRing.logs.Goals as goal

pub returns-clause-good : goal.returns-clause-good
returns-clause-good g c = subst (λ (logs : List Log). AreGood logs) (sym c.logs.ensures.value) c.logs.ensures.good
