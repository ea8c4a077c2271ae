-- What the first events without a step of a ring's logs say of the logs.
use Rattle.std.proofs.Common.{◌≡◌, ℕ, zero, suc, ◌<◌, List, [], ◌∷◌, ◌++◌, Some, None, inl, inr, length, refl, ap}
use Rattle.std.proofs.Common.{arith}
use Rattle.std.specs.Prelude.{slice_get}
use Rattle.ira_event.specs.Log.{Log}
use Rattle.ira_replay.proofs.FirstFaults.{run_or_stop}
use Rattle.ira_order.specs.declared.faulty_event.FaultyEvent.{FaultyEvent}
use Rattle.ira_order.specs.FaultyEvent.{AreFirstFaultyEvents}
use Rattle.ira_order.specs.Run.{AreLocalRuns}
use Rattle.ira_order.proofs.FaultyEvents.{is_stop, stop_of}
use Rattle.ira_audit.specs.RingAnswer.{IsFirstReplayFault}

-- the member after some
pub member_after : {X : Type 0} (xs ys : List X) (x : X) → slice_get (xs ++ x ∷ ys) (length xs) ≡ Some x
member_after [] ys x = refl
member_after (z ∷ xs) ys x = member_after xs ys x

none_at : {X : Type 0} (xs : List X) (k : ℕ) (x : X) → slice_get xs 0 ≡ None → slice_get xs k ≡ Some x → ⊥
none_at [] k x none at = cc
none_at (y ∷ xs) k x none at = cc

module _ (logs : List Log) (stops : List FaultyEvent) (are : AreFirstFaultyEvents logs stops) where
  -- where there is none, all are local runs
  pub all_run : slice_get stops 0 ≡ None → AreLocalRuns logs
  all_run none i log at = elim (run_or_stop log) [
    | inl run ↦ run
    | inr stop ↦
        let found = are.all (stop_of i stop.0) (is_stop logs i log stop.0 at stop.1) in
        absurd (none_at stops found.0 (stop_of i stop.0) none found.1)
  ]

  -- a stop is the first one or comes after it
  not_before : (s t : FaultyEvent) (k : ℕ) → slice_get stops 0 ≡ Some s → slice_get stops k ≡ Some t
      → t.at.place < s.at.place → ⊥
  not_before s t zero first at less = let same : s ≡ t = cc in omega (arith, less, ap (λ x. x.at.place) same)
  not_before s t (suc k) first at less = omega (arith, less, are.rise 0 (suc k) s t (omega arith) first at)

  -- the first is that of the first log that is no local run
  pub first_stop : (s : FaultyEvent) → slice_get stops 0 ≡ Some s
      → IsFirstReplayFault logs s.at.place (record { position = s.at.position; fault = s.fault })
  first_stop s first =
      let is = are.each 0 s first in
      record {
        before = λ i earlier less at. elim (run_or_stop earlier) [
          | inl run ↦ run
          | inr stop ↦
              let found = are.all (stop_of i stop.0) (is_stop logs i earlier stop.0 at stop.1) in
              absurd (not_before s (stop_of i stop.0) found.0 first found.1 less)
        ];
        log = is.log;
        at = is.log_is;
        fault = is.fault;
      }
