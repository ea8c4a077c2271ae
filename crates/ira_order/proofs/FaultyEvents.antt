-- The first events without a step of the nodes of a ring, as they are listed node by node.
use Rattle.std.proofs.Common.{◌≡◌, ℕ, ◌+◌, ◌<◌, ◌≤◌, inl, inr, List, [], ◌∷◌, ◌++◌, Some, length, sym, ◌∙◌, ap, subst}
use Rattle.std.proofs.Common.{arith, refl}
use Rattle.std.specs.Prelude.{slice_get}
use Rattle.std.proofs.lemmas.Bool.{cases_eq}
use Rattle.std.proofs.lemmas.Option.{slice_get_within}
use Rattle.ira_event.specs.Log.{Log}
use Rattle.ira_replay.specs.LocalRun.{IsFirstFault}
use Rattle.ira_replay.specs.declared.replay_fault.ReplayFault.{ReplayFault}
use Rattle.ira_replay.proofs.FirstFaults.{one_stop}
use Rattle.ira_order.specs.declared.faulty_event.FaultyEvent.{FaultyEvent}
use Rattle.ira_order.specs.FaultyEvent.{AreFirstFaultyEvents, IsFirstFaultyEvent}
use Rattle.ira_order.proofs.Pushed.{each_pushed, pushed_last, pushed_old, rises_pushed}

-- the stop of node i where its log has this first fault
abbrev pub stop_of : ℕ → ReplayFault → FaultyEvent
stop_of i f = record { at = record { place = i; position = f.position }; fault = f.fault }

pub is_stop : (logs : List Log) (i : ℕ) (log : Log) (f : ReplayFault) → slice_get logs i ≡ Some log → IsFirstFault log f
    → IsFirstFaultyEvent logs (stop_of i f)
is_stop logs i log f at fault = record { log = log; log_is = at; fault = fault }

-- a node has one
pub same_stop : (logs : List Log) (i : ℕ) (log : Log) (f : ReplayFault) (s : FaultyEvent) → slice_get logs i ≡ Some log
    → IsFirstFault log f → IsFirstFaultyEvent logs s → s.at.place ≡ i → stop_of i f ≡ s
same_stop logs i log f s at fault is here =
    let there : slice_get logs i ≡ Some is.log = subst (λ k. slice_get logs k ≡ Some is.log) here is.log_is in
    let same : is.log ≡ log = cc in
    let its : IsFirstFault log (record { position = s.at.position; fault = s.fault }) =
    subst (λ l. IsFirstFault l (record { position = s.at.position; fault = s.fault })) same is.fault in
    let one : f ≡ record { position = s.at.position; fault = s.fault } = one_stop log f _ fault its in
    ap (stop_of i) one ∙ ap (λ k. record { at = record { place = k; position = s.at.position }; fault = s.fault })
    (sym here)

-- the stops of the first n nodes
pub record StopsSoFar (logs : List Log) (stops : List FaultyEvent) (n : ℕ) : Type 0 where
  pub each : (k : ℕ) (s : FaultyEvent) → slice_get stops k ≡ Some s → IsFirstFaultyEvent logs s × (s.at.place < n)
  pub all : (s : FaultyEvent) → IsFirstFaultyEvent logs s → s.at.place < n → (k : ℕ) × (slice_get stops k ≡ Some s)
  pub rise : (k h : ℕ) (s t : FaultyEvent) → k < h → slice_get stops k ≡ Some s → slice_get stops h ≡ Some t
      → s.at.place < t.at.place

pub no_stops : (logs : List Log) → StopsSoFar logs [] 0
no_stops logs = record {
  each = λ k s at. absurd cc;
  all = λ s is below. absurd (omega (arith, below));
  rise = λ k h s t less at there. absurd cc;
}

-- a node more, without a stop
pub stops_over : (logs : List Log) (stops : List FaultyEvent) (n : ℕ) (log : Log) → slice_get logs n ≡ Some log
    → ((f : ReplayFault) → IsFirstFault log f → ⊥) → StopsSoFar logs stops n → StopsSoFar logs stops (n + 1)
stops_over logs stops n log at none so_far = record {
  each = λ k s there. ((so_far.each k s there).0, omega (arith, (so_far.each k s there).1));
  all = λ s is below. elim (cases_eq s.at.place n) [
    | inr ne ↦ so_far.all s is (omega (arith, below, ne))
    | inl here ↦
        let there : slice_get logs n ≡ Some is.log = subst (λ k. slice_get logs k ≡ Some is.log) here is.log_is in
        let same : is.log ≡ log = cc in
        absurd (none _ (subst (λ l. IsFirstFault l (record { position = s.at.position; fault = s.fault })) same
        is.fault))
  ];
  rise = so_far.rise;
}

-- a node more, with one
pub stops_more : (logs : List Log) (stops : List FaultyEvent) (n : ℕ) (log : Log) (f : ReplayFault)
    → slice_get logs n ≡ Some log → IsFirstFault log f → StopsSoFar logs stops n
    → StopsSoFar logs (stops ++ stop_of n f ∷ []) (n + 1)
stops_more logs stops n log f at fault so_far = record {
  each = each_pushed (λ _ s. IsFirstFaultyEvent logs s × (s.at.place < n + 1)) stops (length stops) (stop_of n f) refl
      (λ k s old. ((so_far.each k s old).0, omega (arith, (so_far.each k s old).1)))
      (is_stop logs n log f at fault, omega arith);
  all = λ s is below. elim (cases_eq s.at.place n) [
    | inr ne ↦
        let found = so_far.all s is (omega (arith, below, ne)) in
        (found.0, pushed_old stops (stop_of n f) s found.0 found.1)
    | inl here ↦
        let same : stop_of n f ≡ s = same_stop logs n log f s at fault is here in (
          length stops,
          subst (λ (x : FaultyEvent). slice_get (stops ++ stop_of n f ∷ []) (length stops)
              ≡ Some x) same (pushed_last stops (stop_of n f)),
        )
  ];
  rise = rises_pushed (λ s. s.at.place) stops (stop_of n f) so_far.rise (λ k s old. (so_far.each k s old).1);
}

pub stops_all : (logs : List Log) (stops : List FaultyEvent) (n : ℕ) → length logs ≤ n → StopsSoFar logs stops n
    → AreFirstFaultyEvents logs stops
stops_all logs stops n whole so_far = record {
  each = λ k s at. (so_far.each k s at).0;
  all = λ s is. so_far.all s is (omega (arith, whole, slice_get_within logs s.at.place is.log is.log_is));
  rise = so_far.rise;
}
