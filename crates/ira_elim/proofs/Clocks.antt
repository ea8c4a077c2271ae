-- What a node's counts say, at its position or at an earlier one.
use Rattle.std.proofs.Common.{◌≢◌, ℕ, ◌+◌, ◌<◌, ◌≤◌, ◌∙◌, List, length, slice_index, subst}
use Rattle.ira_event.specs.Log.{Log}
use Rattle.ira_order.specs.Before.{Before}
use Rattle.ira_order.specs.Ring.{log_of}
use Rattle.ira_order.specs.VectorClock.{IsCount}
use Rattle.ira_order.proofs.Acyclic.{known_on}
use Rattle.ira_elim.specs.CandidateClock.{CandidateClock, IsCandidateClock, IsCounted}
use Rattle.ira_elim.proofs.Present.{before_counts, counts_before}

module _ (logs : List Log) (j q : ℕ) (s : CandidateClock) (is : IsCandidateClock logs j q s) where
  -- what they count happened before
  pub counts_know : (i p : ℕ) → q ≤ length (log_of logs j) → i < length logs → i ≢ j → p < slice_index s.counts i
      → Before logs i (p + 1) j q
  counts_know i p within li ne l =
      known_on logs i (p + 1) j s.counted_at q
      (counts_before logs j s.counted_at i (slice_index s.counts i) p ne (is.counts.others i li ne) l) is.earlier within

  -- at the position they count all that happened before
  pub counted_here : (i : ℕ) → IsCounted s → i < length logs → i ≢ j → IsCount logs j q i (slice_index s.counts i)
  counted_here i counted li ne =
      subst (λ (b : ℕ). IsCount logs j b i (slice_index s.counts i)) (counted ∙ is.position) (is.counts.others i li ne)

  pub all_counted : (i p : ℕ) → IsCounted s → i < length logs → i ≢ j → Before logs i (p + 1) j q
      → p < slice_index s.counts i
  all_counted i p counted li ne before =
      before_counts logs j q i (slice_index s.counts i) p (counted_here i counted li ne) before
