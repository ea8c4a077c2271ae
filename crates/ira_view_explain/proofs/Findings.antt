-- Of which logs findings are, and what is told of them.
use Rattle.std.proofs.Common.{◌≡◌, ◌∙◌, ℕ, ◌+◌, ◌≤◌, List, [], ◌∷◌, ◌++◌, Some, ap, length, refl, subst, take}
use Rattle.std.specs.Prelude.{slice_get}
use Rattle.ira_event.specs.declared.event.Event.{Event}
use Rattle.ira_event.specs.Log.{Log}
use Rattle.ira_order.specs.declared.event_at.EventAt.{EventAt}
use Rattle.ira_order.specs.declared.faulty_event.FaultyEvent.{FaultyEvent}
use Rattle.ira_order.specs.FaultyEvent.{IsFirstFaultyEvent}
use Rattle.ira_replay.specs.declared.replay_fault.ReplayFault.{ReplayFault}
use Rattle.ira_replay.specs.LocalRun.{IsFirstFault, IsLocalRun}
use Rattle.ira_replay.proofs.FirstFaults.{one_stop, run_or_fault}
use Rattle.ira_view_page.specs.declared.evidence.Evidence.{Evidence}
use Rattle.ira_view_page.specs.declared.evidence.Evidence.TheVariants.{OtherFaulty}
use Rattle.ira_view_page.specs.declared.named_text.NamedText.{NamedText}
use Rattle.ira_view_page.specs.declared.record_at.RecordAt.{RecordAt}
use Rattle.ira_view_explain.specs.declared.steps_finding.OtherStop.{OtherStop}
use Rattle.ira_view_explain.specs.Refused.{AreStepsTold, IsOtherTold, IsRecordOf}
use Rattle.ira_view_page.proofs.Parts.{parts_all, parts_more}

-- the fault of a node's first event without a step is its log's first
fault_of : (logs : List Log) (log : Log) (named : FaultyEvent) → slice_get logs named.at.place ≡ Some log
    → IsFirstFaultyEvent logs named → IsFirstFault log (record { position = named.at.position; fault = named.fault })
fault_of logs log named at is =
    let there : slice_get logs named.at.place ≡ Some is.log = is.log_is in
    let same : is.log ≡ log = cc in
    subst (λ (l : Log). IsFirstFault l (record { position = named.at.position; fault = named.fault })) same is.fault

pub position_is : (logs : List Log) (log : Log) (named : FaultyEvent) (f : ReplayFault)
    → slice_get logs named.at.place ≡ Some log → IsFirstFaultyEvent logs named → IsFirstFault log f
    → f.position ≡ named.at.position
position_is logs log named f at is fault =
    ap (λ (x : ReplayFault). x.position) (one_stop log f _ fault (fault_of logs log named at is))

-- such a log is no local run
pub no_run : (logs : List Log) (log : Log) (named : FaultyEvent) → slice_get logs named.at.place ≡ Some log
    → IsFirstFaultyEvent logs named → IsLocalRun log → ⊥
no_run logs log named at is run = run_or_fault log _ run (fault_of logs log named at is)

-- another node's event more
pub steps_more : {A : Type 0} (files : List NamedText) (at : EventAt) (event : Event) (others : List OtherStop) (i : ℕ)
    (x : OtherStop) (told all : List (Evidence A)) (r : RecordAt A) → slice_get others i ≡ Some x
    → AreStepsTold files at event (take i others) told → IsRecordOf files x.stop.at x.event r
    → all ≡ told ++ OtherFaulty r x.stop.fault x.happened_before ∷ []
    → AreStepsTold files at event (take (i + 1) others) all
steps_more files at event others i x told all r there before record_is same =
    let o = OtherFaulty r x.stop.fault x.happened_before in
    record {
      named = before.named;
      rest = before.rest ++ o ∷ [];
      parts = same ∙ ap (λ ys. ys ++ o ∷ []) before.parts;
      named_is = before.named_is;
      others_are = parts_more (IsOtherTold files) others i x before.rest (o ∷ []) _ there before.others_are
          (r, refl, record_is) refl;
    }

pub steps_all : {A : Type 0} (files : List NamedText) (at : EventAt) (event : Event) (others : List OtherStop) (i : ℕ)
    (told : List (Evidence A)) → length others ≤ i → AreStepsTold files at event (take i others) told
    → AreStepsTold files at event others told
steps_all files at event others i told past are = record {
  named = are.named;
  rest = are.rest;
  parts = are.parts;
  named_is = are.named_is;
  others_are = parts_all (IsOtherTold files) others i are.rest past are.others_are;
}
