-- Where a node receives nothing it learns nothing of the others.
use Rattle.std.proofs.Common.{◌≡◌, ◌≢◌, ℕ, zero, suc, ◌+◌, ◌-◌, ◌<◌, ◌≤◌, List, Some, slice_get}
use Rattle.std.proofs.Common.{add-zero, ap, sym, subst, arith}
use Rattle.ira_event.specs.declared.event.Event.TheVariants.{Got}
use Rattle.ira_event.specs.declared.load.Load.{Load}
use Rattle.ira_event.specs.Log.{Log}
use Rattle.ira_order.specs.Before.{Before}
use Rattle.ira_order.specs.Order.{IsOrder}
use Rattle.ira_order.specs.Ring.{log_of, events_of}
use Rattle.ira_order.proofs.Acyclic.{steady}
use Rattle.ira_elim.specs.CandidateClock.{AreNoReceipts, LearnsNothing}

module _ (logs : List Log) (order : List ℕ) (o : IsOrder logs order) (j b : ℕ) where
  nothing_by : (d : ℕ) → ((k : ℕ) (m : Load) → b ≤ k → k < b + d → slice_get (log_of logs j) k ≡ Some (Got m) → ⊥)
      → (i a : ℕ) → i ≢ j → Before logs i a j (b + d) → Before logs i a j b
  nothing_by zero quiet i a ne before = rw (add-zero b) at before
  nothing_by (suc d) quiet i a ne before =
      let e : b + suc d ≡ suc (b + d) = omega arith in
      nothing_by d (λ k m from below. quiet k m from (omega arith)) i a ne
      (steady logs order o i a j (b + d) (subst (λ (n : ℕ). Before logs i a j n) e before) ne
      (λ m at. quiet (b + d) m (omega arith) (omega arith) at))

  pub learns_nothing : (log : Log) (c : ℕ) → slice_get logs j ≡ Some log → b ≤ c → AreNoReceipts log b c
      → LearnsNothing logs j b c
  learns_nothing log c at le quiet i a ne before =
      let events : log_of logs j ≡ log.events = ap (λ o. events_of o) at in
      let d : ℕ = c - b in
      let e : b + d ≡ c = omega arith in
      nothing_by d (λ k m from below is. quiet k m from (omega (arith, e)) (rw events at is)) i a ne
      (subst (λ (n : ℕ). Before logs i a j n) (sym e) before)
