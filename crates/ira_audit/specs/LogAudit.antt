-- Helpers, no definitions: the text of one log alone, which is judged piece by piece.
use Rattle.std.specs.Prelude.{◌≡◌, ℕ, List, [], ◌++◌, length, Option, Some, None, Result, ⊤}
use Rattle.ira_event.specs.declared.event.Event.{Event}
use Rattle.ira_event.specs.declared.log_fault.LogFault.{LogFault}
use Rattle.ira_event.specs.declared.log_head.LogHead.{LogHead}
use Rattle.ira_event.specs.Log.{Log}
use Rattle.ira_event.specs.LogTextFault.{BeginsWithHead, BeginsWithNoHead}
use Rattle.ira_event.specs.Records.{RecordsLeft, HasRead, IsEndOrFault}
use Rattle.ira_node.specs.NodeState.{first_state}
use Rattle.ira_audit.specs.Replaying.{LeadsOrStops}
use Rattle.ira_audit.specs.declared.partial_replay.PartialReplay.{PartialReplay}

-- a log with this head and these events
abbrev pub log_of_records : LogHead → List Event → Log
log_of_records head events =
    record {
      version = head.version;
      nodes = head.nodes;
      place = head.place;
      initiator = head.initiator;
      events = events;
    }

-- these events lead to the state that is told, or the first of them without a step is told
abbrev pub ReplaysTo : PartialReplay → List Event → Type 0
ReplaysTo r events = LeadsOrStops r.head.nodes (first_state r.head.initiator) events r.state r.first_fault

-- the text begins with the head and the records that were read, and this is left of it
pub record IsBegun (text : List ℕ) (r : PartialReplay) (left : RecordsLeft) : Type 0 where
  pub rest : List ℕ
  pub head : BeginsWithHead text r.head rest
  pub version : left.version ≡ r.head.version
  pub events : List Event
  pub read : HasRead rest events left
  pub came : ReplaysTo r events

-- the text ends with these bytes
abbrev pub IsSuffix : List ℕ → List ℕ → Type 0
IsSuffix end text = (front : List ℕ) × (text ≡ front ++ end)

-- an audit of one log: how many bytes it took, and what they came to
pub record LogAudit : Type 0 where
  pub taken : ℕ
  pub replay : Option PartialReplay

-- these bytes are nothing, or the head of a log and the records that were read, to the end of a line
abbrev pub AreWholeLines : Option PartialReplay → List ℕ → Type 0
AreWholeLines None text = text ≡ []
AreWholeLines (Some r) text = IsBegun text r (record { version = r.head.version; rest = []; count = r.count })

-- these bytes were taken
abbrev pub HasTakenBytes : LogAudit → List ℕ → Type 0
HasTakenBytes audit text = (audit.taken ≡ length text) × AreWholeLines audit.replay text

-- no more of a log can be taken: this begins with no head, or with no record within the limits
abbrev pub HasNoMore : Option PartialReplay → List ℕ → Type 0
HasNoMore None rest = BeginsWithNoHead rest
HasNoMore (Some r) rest = (end : Result ⊤ LogFault)
    × IsEndOrFault (record { version = r.head.version; rest = rest; count = r.count }) end
