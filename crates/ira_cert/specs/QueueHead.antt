-- What eliminations left of a node's candidates.
use Rattle.std.specs.Prelude.{ℕ, List}
use Rattle.ira_event.specs.Log.{Log}
use Rattle.ira_pred.specs.Case.{Conjunct}
use Rattle.ira_cert_text.specs.declared.cert_step.CertStep.{CertStep}
use Rattle.ira_cert.specs.declared.queue_head.QueueHead.{QueueHead}
use Rattle.ira_cert.specs.declared.queue_head.QueueHead.TheVariants.{NotAsked, Spent, First}
use Rattle.ira_cert.specs.Conjuncts.{IsAsked}
use Rattle.ira_cert.specs.Front.{IsFront, IsSpent}

-- this is left of node i's after these steps
abbrev pub IsQueueHead : List Log → List Conjunct → List CertStep → ℕ → QueueHead → Type 0
IsQueueHead logs case before i NotAsked = ¬ (IsAsked case i)
IsQueueHead logs case before i Spent = IsSpent logs case before i
IsQueueHead logs case before i (First p) = IsFront logs case before i p
