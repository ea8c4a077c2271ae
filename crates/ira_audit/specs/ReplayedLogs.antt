-- Helpers, no definitions: what the replay of a log gave, and the search for an order of logs.
use Rattle.std.specs.Prelude.{List, MatchOption, MatchResult, Option, Result, ⊤}
use Rattle.ira_event.specs.Log.{Log}
use Rattle.ira_replay.specs.declared.replay_fault.ReplayFault.{ReplayFault}
use Rattle.ira_replay.specs.LocalRun.{IsLocalRun, IsFirstFault}
use Rattle.ira_order.specs.declared.order_fault.OrderFault.{OrderFault}
use Rattle.ira_order.specs.declared.order_fault.OrderFault.TheVariants.{Match, Circle, OutOfMemory}
use Rattle.ira_order.specs.Circle.{HasCircle, HasOrder}
use Rattle.ira_order.specs.MatchFault.{IsMatchFault}

-- the log is a local run, or this is its first event without a step
abbrev pub IsReplayed : Log → Option ReplayFault → Type 0
IsReplayed log first_fault = MatchOption first_fault (IsLocalRun log) (IsFirstFault log)

-- why the logs have no order; that memory ran out says nothing of them
abbrev pub WhyNoOrder : List Log → OrderFault → Type 0
WhyNoOrder logs (Match f) = IsMatchFault logs f
WhyNoOrder logs Circle = HasCircle logs
WhyNoOrder logs OutOfMemory = ⊤

-- the logs match and have an order, or this is why not
abbrev pub IsSearched : {T : Type 0} → List Log → Result T OrderFault → Type 0
IsSearched logs order = MatchResult order (λ _. HasOrder logs) (WhyNoOrder logs)
