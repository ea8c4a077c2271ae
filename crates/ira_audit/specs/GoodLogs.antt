-- Logs against which there is no reason, and their texts.
use Rattle.std.specs.Prelude.{ℕ, List}
use Rattle.ira_event.specs.Log.{Log}
use Rattle.ira_event.specs.Logs.{AreLogs}
use Rattle.ira_order.specs.Circle.{HasOrder}
use Rattle.ira_order.specs.Run.{AreLocalRuns}
use Rattle.ira_audit.specs.LogTexts.{AreLogTexts}

-- they are a ring's logs, which match and have an order, and all of whose events have steps
pub record AreGood (logs : List Log) : Type 0 where
  pub ring : AreLogs logs
  pub order : HasOrder logs
  pub runs : AreLocalRuns logs

-- they are texts of such logs
pub record AreGoodLogs (texts : List (List ℕ)) (logs : List Log) : Type 0 where
  pub texts_are : AreLogTexts texts logs
  pub are_good : AreGood logs
