-- What stands against the logs of a ring, and what an explanation tells of it.
use Rattle.std.specs.Prelude.{◌≡◌, ◌≢◌, ◌↔◌, ◌⊎◌, IsTrue, List, [], ◌∷◌, ◌++◌, MatchOption, Option, None, Some}
use Rattle.std.specs.Prelude.{codes, slice_get, string_bytes}
use Rattle.ira_event.specs.declared.event.Event.{Event}
use Rattle.ira_event.specs.declared.event.Event.TheVariants.{Got, Sent as EventSent}
use Rattle.ira_event.specs.Log.{Log}
use Rattle.ira_node.specs.declared.node_state.NodeState.{NodeState}
use Rattle.ira_order.specs.declared.event_at.EventAt.{EventAt}
use Rattle.ira_order.specs.declared.faulty_event.FaultyEvent.{FaultyEvent}
use Rattle.ira_order.specs.Ring.{log_of, numbered}
use Rattle.ira_audit.specs.declared.reason.Reason.{Reason}
use Rattle.ira_audit.specs.declared.reason.Reason.TheVariants.{Circle as CircleReason, Heads, Log as LogReason, Match}
use Rattle.ira_audit.specs.declared.reason.Reason.TheVariants.{Replay}
use Rattle.ira_audit.specs.declared.judged.Judged.{Judged}
use Rattle.ira_audit.specs.declared.judged.Judged.TheVariants.{Good, Refused, NoRing}
use Rattle.ira_audit.specs.RefusedLogs.{RefusedLogs}
use Rattle.ira_view_evidence.specs.declared.exchange.Exchange.{Exchange}
use Rattle.ira_view_evidence.specs.declared.stuck_at.StuckAt.{StuckAt}
use Rattle.ira_view_evidence.specs.CircleEvidence.{IsCircleEvidence}
use Rattle.ira_view_evidence.specs.LinkEvidence.{IsLinkEvidence}
use Rattle.ira_view_evidence.specs.NodeEvidence.{IsNodeEvidence}
use Rattle.ira_view_evidence.specs.Origin.{AreOrigins, HappenedBefore}
use Rattle.ira_view_page.specs.Parts.{AreParts}
use Rattle.ira_view_page.specs.declared.evidence.Evidence.{Evidence}
use Rattle.ira_view_page.specs.declared.evidence.Evidence.TheVariants.{Faulty, OtherFaulty, Received, Sent}
use Rattle.ira_view_page.specs.declared.named_text.NamedText.{NamedText}
use Rattle.ira_view_page.specs.declared.record_at.RecordAt.{RecordAt}
use Rattle.ira_view_explain.specs.Besides.{IsBesides}
use Rattle.ira_view_explain.specs.HeadsTold.{AreHeadsTold}
use Rattle.ira_view_explain.specs.TextTold.{IsTextTold}
use Rattle.ira_view_explain.specs.declared.faulty_link.FaultyLink.{FaultyLink}
use Rattle.ira_view_explain.specs.declared.refused_finding.RefusedFinding.{RefusedFinding}
use Rattle.ira_view_explain.specs.declared.refused_finding.RefusedFinding.TheVariants.{Link, Circle, Steps}
use Rattle.ira_view_explain.specs.declared.steps_finding.OtherStop.{OtherStop}
use Rattle.ira_view_explain.specs.declared.steps_finding.StepsFinding.{StepsFinding}
use Rattle.ira_view_explain.specs.declared.stopped_log.StoppedLog.{StoppedLog}

-- it is this event, with the name of the file of its node's log; a dash where there is none
pub record IsRecordOf {A : Type 0} (files : List NamedText) (at : EventAt) (event : Event) (r : RecordAt A)
    : Type 0 where
  pub file : MatchOption (slice_get files at.place) (string_bytes r.file ≡ codes "-")
      (λ file. string_bytes r.file ≡ file.name.now)
  pub at_is : r.at ≡ at
  pub event_is : r.event ≡ event

-- of a link: the sending, where there is one, and the receipt
abbrev pub AreSidesTold : {A : Type 0} → List NamedText → Option Exchange → Exchange → List (Evidence A) → Type 0
AreSidesTold {A} files None receipt told =
    (r : RecordAt A) × (told ≡ Received r ∷ []) × IsRecordOf files receipt.at (Got receipt.load) r
AreSidesTold {A} files (Some sending) receipt told =
    (s r : RecordAt A) × (told ≡ Sent s ∷ Received r ∷ [])
    × IsRecordOf files sending.at (EventSent sending.load) s × IsRecordOf files receipt.at (Got receipt.load) r

-- of a node that is stuck: its receipt, and the sending that it waits for
abbrev pub AreStuckTold : {A : Type 0} → List NamedText → StuckAt → List (Evidence A) → Type 0
AreStuckTold {A} files stuck told =
    (r s : RecordAt A) × (told ≡ Received r ∷ Sent s ∷ [])
    × IsRecordOf files stuck.receipt (Got stuck.load) r × IsRecordOf files stuck.sending (EventSent stuck.load) s

-- a log's first event without a step, and the states that lead to it
pub record IsStopped {A : Type 0} (log : Log) (stopped : StoppedLog A) : Type 0 where
  pub states : IsNodeEvidence log stopped.evidence.fault stopped.evidence.first stopped.evidence.states.items
  pub event : numbered log.events stopped.evidence.fault.position ≡ Some stopped.stopped.event
  pub earlier : List NodeState
  pub last : stopped.evidence.states.items ≡ earlier ++ stopped.stopped.state ∷ []

-- an event without a step, with whether it happened before the named one
pub record IsOtherStop (logs : List Log) (named stop : FaultyEvent) (other : OtherStop) : Type 0 where
  pub stop_is : other.stop ≡ stop
  pub event : numbered (log_of logs stop.at.place) stop.at.position ≡ Some other.event
  pub before : IsTrue other.happened_before ↔ HappenedBefore logs stop.at named.at

-- nothing of the named event's node, and of each other one its event
abbrev pub AreOtherStops : List Log → FaultyEvent → FaultyEvent → List OtherStop → Type 0
AreOtherStops logs named stop part =
    ((stop.at.place ≡ named.at.place) × (part ≡ []))
    ⊎ ((stop.at.place ≢ named.at.place) × (other : OtherStop) × (part ≡ other ∷ [])
    × IsOtherStop logs named stop other)

-- the named event of these, why it has no step, the others, and where to begin
pub record AreSteps {A : Type 0} (logs : List Log) (faulty : List FaultyEvent) (named : FaultyEvent)
    (steps : StepsFinding A) : Type 0 where
  pub named_is : steps.named ≡ named
  pub log : Log
  pub log_is : slice_get logs named.at.place ≡ Some log
  pub stopped : IsStopped log steps.log
  pub position : steps.log.evidence.fault.position ≡ named.at.position
  pub others : AreParts (AreOtherStops logs named) faulty steps.others.items
  pub origins : AreOrigins logs named.at steps.origins.items

-- of another node's event without a step: with why it has none, and whether it happened before the named one
abbrev pub IsOtherTold : {A : Type 0} → List NamedText → OtherStop → List (Evidence A) → Type 0
IsOtherTold {A} files other told =
    (r : RecordAt A) × (told ≡ OtherFaulty r other.stop.fault other.happened_before ∷ [])
    × IsRecordOf files other.stop.at other.event r

-- of a link: its sides, and the event that is told besides as another node's, where there is one
abbrev pub IsLinkTold : {A : Type 0} → List NamedText → FaultyLink A → List (Evidence A) → Type 0
IsLinkTold {A} files link told =
    (sides others : List (Evidence A)) × (told ≡ sides ++ others)
    × AreSidesTold files link.sending link.receipt sides
    × MatchOption link.other (others ≡ []) (λ stop.
    MatchOption (numbered (log_of link.logs.now stop.at.place) stop.at.position) (others ≡ []) (λ event.
    IsOtherTold files (record { stop = stop; event = event; happened_before = link.came_before }) others))

-- of events without a step: the named one, and the others
pub record AreStepsTold {A : Type 0} (files : List NamedText) (at : EventAt) (event : Event) (others : List OtherStop)
    (told : List (Evidence A)) : Type 0 where
  pub named : RecordAt A
  pub rest : List (Evidence A)
  pub parts : told ≡ Faulty named ∷ rest
  pub named_is : IsRecordOf files at event named
  pub others_are : AreParts (IsOtherTold files) others rest

-- what stands against logs with these first events without a step, for this reason
abbrev pub IsFinding : {A : Type 0} → List Log → Reason → List FaultyEvent → RefusedFinding A → Type 0
IsFinding logs (Match f) faulty (Link link) =
    IsLinkEvidence logs f (record { receipt = link.receipt; sending = link.sending }) × (link.logs.now ≡ logs)
    × IsBesides faulty link.receipt link.sending link.other link.came_before
IsFinding logs CircleReason faulty (Circle found) =
    IsCircleEvidence logs found.circle.ordered found.circle.stuck.items × (found.faulty ≡ slice_get faulty 0)
IsFinding logs (Replay place position fault) faulty (Steps steps) =
    AreSteps logs faulty (record { at = record { place = place; position = position }; fault = fault }) steps
IsFinding logs _ faulty _ = ⊥

-- what a finding rests on
abbrev pub AreTold : {A : Type 0} → List NamedText → RefusedFinding A → List (Evidence A) → Type 0
AreTold files (Link link) told = IsLinkTold files link told
AreTold files (Circle found) told = AreParts (AreStuckTold files) found.circle.stuck.items told
AreTold files (Steps steps) told =
    AreStepsTold files steps.named.at steps.log.stopped.event steps.others.items told

-- the state in which the named event has no step
abbrev pub state_before : {A : Type 0} → RefusedFinding A → Option NodeState
state_before (Steps steps) = Some steps.log.stopped.state
state_before _ = None

-- what is told of refused logs is what their finding rests on
pub record IsRefusedTold {A : Type 0} (files : List NamedText) (refused : RefusedLogs) (state : Option NodeState)
    (told : List (Evidence A)) : Type 0 where
  pub finding : RefusedFinding A
  pub is_finding : IsFinding refused.logs refused.reason refused.faulty_events finding
  pub are_told : AreTold files finding told
  pub state_is : state ≡ state_before finding

-- what is told of texts that aren't those of one ring's logs: where the first that is no log's shows it, or all heads
abbrev pub IsNoRingTold : {A : Type 0} → List NamedText → Reason → List (Evidence A) → Type 0
IsNoRingTold files (LogReason number fault) told =
    (file : NamedText) × (slice_get files number ≡ Some file) × IsTextTold file fault told
IsNoRingTold files (Heads fault) told = AreHeadsTold files told
IsNoRingTold files _ told = ⊥

-- what is told of the texts that were judged: of the logs of a run nothing
abbrev pub IsTold : {A : Type 0} → List NamedText → Judged A → Option NodeState → List (Evidence A) → Type 0
IsTold files (Good logs) state told = (state ≡ None) × (told ≡ [])
IsTold files (Refused refused) state told = IsRefusedTold files refused state told
IsTold files (NoRing reason) state told = (state ≡ None) × IsNoRingTold files reason told
