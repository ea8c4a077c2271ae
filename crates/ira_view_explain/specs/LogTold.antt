-- What is told of the text of one log alone.
use Rattle.std.specs.Prelude.{◌≡◌, ℕ, List, [], ◌∷◌, Option, None, Some, string_bytes}
use Rattle.ira_event.specs.Log.{Log}
use Rattle.ira_event.specs.LogText.{IsLogText}
use Rattle.ira_node.specs.declared.node_state.NodeState.{NodeState}
use Rattle.ira_audit.specs.declared.answer.Answer.{Answer}
use Rattle.ira_audit.specs.declared.answer.Answer.TheVariants.{No, Yes}
use Rattle.ira_audit.specs.declared.reason.Reason.TheVariants as reason
use Rattle.ira_view_page.specs.declared.evidence.Evidence.{Evidence}
use Rattle.ira_view_page.specs.declared.evidence.Evidence.TheVariants.{Faulty}
use Rattle.ira_view_page.specs.declared.named_text.NamedText.{NamedText}
use Rattle.ira_view_page.specs.declared.record_at.RecordAt.{RecordAt}
use Rattle.ira_view_explain.specs.Refused.{IsStopped}
use Rattle.ira_view_explain.specs.TextTold.{IsTextTold}
use Rattle.ira_view_explain.specs.declared.stopped_log.StoppedLog.{StoppedLog}

-- it is the event without a step, with the name of the log's file and the place of its node
pub record IsFaultyTold {A : Type 0} (file : List ℕ) (place : ℕ) (stopped : StoppedLog A) (told : Evidence A)
    : Type 0 where
  pub event : RecordAt A
  pub is_event : told ≡ Faulty event
  pub file_is : string_bytes event.file ≡ file
  pub at_is : event.at ≡ record { place = place; position = stopped.evidence.fault.position }
  pub event_is : event.event ≡ stopped.stopped.event

-- what is told of a log in a file of this name: its first event without a step, and the state before it
pub record IsStoppedTold {A : Type 0} (file : List ℕ) (log : Log) (state : Option NodeState) (told : List (Evidence A))
    : Type 0 where
  pub stopped : StoppedLog A
  pub is_stopped : IsStopped log stopped
  pub one : Evidence A
  pub told_is : told ≡ one ∷ []
  pub one_is : IsFaultyTold file log.place stopped one
  pub state_is : state ≡ Some stopped.stopped.state

-- what is told of a file's text that has this answer
abbrev pub IsLogTold : {A : Type 0} → NamedText → Answer → Option NodeState → List (Evidence A) → Type 0
IsLogTold file Yes state told = (state ≡ None) × (told ≡ [])
IsLogTold file (No (reason.Log number fault)) state told = (state ≡ None) × IsTextTold file fault told
IsLogTold file (No (reason.Replay place position fault)) state told =
    (log : Log) × IsLogText file.text.now log × IsStoppedTold file.name.now log state told
IsLogTold file (No _) state told = ⊥
