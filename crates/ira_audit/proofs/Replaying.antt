-- A log that is replayed while it is read.
use Rattle.std.proofs.Common.{◌≡◌, ◌≢◌, ◌↔◌, ℕ, ◌+◌, List, [], ◌∷◌, ◌++◌, length, Result, Ok, refl, ap, subst, sym}
use Rattle.std.proofs.Common.{append_assoc, Option, Some, None, true, false, ◌∙◌, inl, inr}
use Rattle.std.specs.Option.{is_some}
use Rattle.ira_event.specs.declared.event.Event.{Event}
use Rattle.ira_event.specs.declared.load.Load.{Load}
use Rattle.ira_event.specs.Log.{Log}
use Rattle.ira_event.specs.LogText.{IsLogText}
use Rattle.ira_event.specs.LogTextFault.{LogTextFault}
use Rattle.ira_event.specs.Records.{RecordsLeft, ReadsRecord}
use Rattle.ira_event.proofs.EarlyFaults.{not_out_of_memory}
use Rattle.ira_event.proofs.LogReading.{after_more}
use Rattle.ira_event.specs.declared.out_of_memory.OutOfMemory.{OutOfMemory}
use Rattle.ira_event.specs.declared.log_fault.LogFault.{LogFault}
use Rattle.ira_event.specs.declared.log_fault.LogFault.TheVariants as fault
use Rattle.ira_node.specs.declared.node_state.NodeState.{NodeState}
use Rattle.ira_node.specs.NodeState.{free}
use Rattle.ira_node.specs.NodeStep.{NodeStep}
use Rattle.ira_node.specs.NodeStepFault.{NodeStepFault}
use Rattle.ira_replay.specs.declared.replay_fault.ReplayFault.{ReplayFault}
use Rattle.ira_audit.specs.LogTextAnswer as single
use Rattle.ira_audit.specs.Replaying.{HasKept, IsLogAnswer, LeadsOrStops}
use Rattle.ira_replay.proofs.Along.{leads_further}
use Rattle.ira_audit.specs.Report.{IsReportable}
use Rattle.ira_audit.specs.declared.answer.Answer.{Answer}
use Rattle.ira_event.proofs.Unless.{ok_same}
use Rattle.ira_audit.proofs.OneAnswer.{one_answer}

-- ---- one more event

module _ (nodes : ℕ) (first : NodeState) (events : List Event) (state after : NodeState) (e : Event) where
  -- it has a step
  pub leads_on : (first_fault : Option ReplayFault) → LeadsOrStops nodes first events state first_fault
      → is_some first_fault ≡ false
      → NodeStep nodes state e after → LeadsOrStops nodes first (events ++ e ∷ []) after first_fault
  leads_on None h none step = leads_further nodes first events state e after h step
  leads_on (Some f) h none step = absurd cc

  -- it is the first without one
  pub stops_there : (first_fault : Option ReplayFault) (f : ReplayFault)
      → LeadsOrStops nodes first events state first_fault
      → is_some first_fault ≡ false
      → f.position ≡ length events + 1 → NodeStepFault nodes state e f.fault
      → LeadsOrStops nodes first (events ++ e ∷ []) after (Some f)
  stops_there None f h none at bad = record {
    before = events;
    event = e;
    after = [];
    state = state;
    parts = refl;
    leads = h;
    position = at;
    fault = bad;
  }
  stops_there (Some g) f h none at bad = absurd cc

  -- it comes after one without a step
  pub stays_stopped : (first_fault : Option ReplayFault) → LeadsOrStops nodes first events state first_fault
      → is_some first_fault ≡ true
      → LeadsOrStops nodes first (events ++ e ∷ []) after first_fault
  stays_stopped None h some = absurd cc
  stays_stopped (Some f) h some = record {
    before = h.before;
    event = h.event;
    after = h.after ++ e ∷ [];
    state = h.state;
    parts = ap (λ es. es ++ e ∷ []) h.parts ∙ append_assoc h.before (h.event ∷ h.after) (e ∷ []);
    leads = h.leads;
    position = h.position;
    fault = h.fault;
  }

-- ---- events that are kept

pub kept_more : (version : ℕ) (text : List ℕ) (nodes : ℕ) (first : NodeState) (old new : RecordsLeft)
    (events : List Event) (state after : NodeState) (e : Event) (first_fault next : Option ReplayFault)
    → ReadsRecord old new e → HasKept version text nodes first old events state first_fault
    → LeadsOrStops nodes first (events ++ e ∷ []) after next
    → HasKept version text nodes first new (events ++ e ∷ []) after next
kept_more version text nodes first old new events state after e first_fault next r h replay = record {
  read = after_more text events old new e h.read r;
  same = r.version ∙ h.same;
  replay = replay;
}

-- one more event that has a step
pub kept_step : (version : ℕ) (text : List ℕ) (nodes : ℕ) (first : NodeState) (old new : RecordsLeft)
    (events : List Event) (state after : NodeState) (e : Event) → ReadsRecord old new e
    → HasKept version text nodes first old events state None → NodeStep nodes state e after
    → HasKept version text nodes first new (events ++ e ∷ []) after None
kept_step version text nodes first old new events state after e r h step =
    kept_more version text nodes first old new events state after e None None r h
    (leads_on nodes first events state after e None h.replay refl step)

pub free_is : (s : NodeState) → s.owed ≡ None → free s.term s.phase ≡ s
free_is s none = ap (λ (o : Option Load). record { phase = s.phase; owed = o; term = s.term }) (sym none)

-- ---- the answer of the text

-- a fault of a text doesn't say that memory ran out
pub text_fault_other : (text : List ℕ) (f : LogFault) → LogTextFault text f → f ≢ fault.OutOfMemory
text_fault_other text f h e = not_out_of_memory text (subst (LogTextFault text) e h)

-- an answer that is right is the only one
pub exactly : (text : List ℕ) (x : Answer) → single.IsLogTextAnswer text x → (a : Answer)
    → (x ≡ a) ↔ single.IsLogTextAnswer text a
exactly text x h a = (λ e. subst (single.IsLogTextAnswer text) e h, λ k. one_answer text x a h k)

-- what is exact of an answer is so of the result that has it
pub ok_exactly : (P : Answer → Type 0) (x a : Answer) → (x ≡ a) ↔ P a
    → ◌≡◌ {A = Result Answer OutOfMemory} (Ok x) (Ok a) ↔ P a
ok_exactly P x a h = (λ e. h.0 (ok_same x a e), λ k. ap Ok (h.1 k))

-- the answer of the text's log is the text's
pub of_log : (text : List ℕ) (log : Log) (a : Answer) → IsLogText text log → IsLogAnswer log a
    → single.IsLogTextAnswer text a
of_log text log a is (inl h) = single.yes log is h.1 h.0
of_log text log a is (inr h) = single.stopped log h.0 is h.2 h.1

pub log_reportable : (log : Log) (a : Answer) → IsLogAnswer log a → IsReportable a
log_reportable log a (inl h) = rw h.0 tt
log_reportable log a (inr h) = rw h.1 tt
