-- What the texts of a ring's logs have to do with runs of the ring.
use Rattle.std.specs.Prelude.{ℕ, List, ⊤}
use Rattle.ira_event.specs.Log.{Log}
use Rattle.ira_event.specs.Logs.{AreLogs}
use Rattle.ira_order.specs.Circle.{HasOrder}
use Rattle.ira_order.specs.RunsOfLogs.{EveryOrderIsRun, HaveNoRun}
use Rattle.ira_audit.specs.declared.reason.Reason.{Reason}
use Rattle.ira_audit.specs.declared.reason.Reason.TheVariants.{Match, Circle, Replay}
use Rattle.ira_audit.specs.declared.answer.Answer.TheVariants.{Yes, No}
use Rattle.ira_audit.specs.LogTexts.{AreLogTexts}
use Rattle.ira_audit.specs.RingAnswer.{IsRingAnswer}

-- they are texts of a ring's logs, which have an order, and each order of them is a run of the ring
pub record AreTextsOfRuns (texts : List (List ℕ)) : Type 0 where
  pub logs : List Log
  pub texts_are : AreLogTexts texts logs
  pub ring : AreLogs logs
  pub order : HasOrder logs
  pub runs : EveryOrderIsRun logs

-- they are texts of a ring's logs, which are the logs of no run of the ring
pub record AreTextsWithoutRun (texts : List (List ℕ)) : Type 0 where
  pub logs : List Log
  pub texts_are : AreLogTexts texts logs
  pub ring : AreLogs logs
  pub none : HaveNoRun logs

-- the reason speaks of what the logs of a ring have to do with one another, or with the node step
abbrev pub IsOfRing : Reason → Type 0
IsOfRing (Match f) = ⊤
IsOfRing Circle = ⊤
IsOfRing (Replay place position f) = ⊤
IsOfRing _ = ⊥

-- after a yes the texts are those of runs
abbrev pub YesMeansRuns : Type 0
YesMeansRuns = (texts : List (List ℕ)) → IsRingAnswer texts Yes → AreTextsOfRuns texts

-- after such a reason they are those of no run
abbrev pub NoMeansNoRun : Type 0
NoMeansNoRun = (texts : List (List ℕ)) (r : Reason) → IsRingAnswer texts (No r) → IsOfRing r → AreTextsWithoutRun texts
