-- Helpers, no definitions: what is kept of each log while the greatest consistent beginning is looked for.
use Rattle.std.specs.Prelude.{◌≡◌, ◌≢◌, ℕ, ◌<◌, ◌≤◌, Bool, true, false, List, length, map, slice_index, slice_index_or}
use Rattle.std.specs.Prelude.{take}
use Rattle.std.specs.List.{sum_by}
use Rattle.ira_event.specs.declared.event.Event.{Event}
use Rattle.ira_event.specs.Log.{Log}
use Rattle.ira_order.specs.Matching.{got, sent}
use Rattle.ira_order.specs.Ring.{log_of, next}
use Rattle.ira_mend.specs.Beginning.{IsConsistentBeginning}
use Rattle.ira_mend.specs.declared.beginning.Beginning.{Beginning}

-- these are the first events of a log, so many receipts and so many sendings
pub record IsBeginning (events : List Event) (b : Beginning) : Type 0 where
  pub within : b.events ≤ length events
  pub receipts : b.receipts ≡ length (got (take b.events events))
  pub sendings : b.sendings ≡ length (sent (take b.events events))

-- n is at most `from`, and of the numbers up to there with at most so many receipts none is greater
pub record IsLongestWith (events : List Event) (from most n : ℕ) : Type 0 where
  pub shorter : n ≤ from
  pub longest : (m : ℕ) → m ≤ from → length (got (take m events)) ≤ most → m ≤ n

abbrev pub nothing : Beginning
nothing = record { events = 0; receipts = 0; sendings = 0 }

-- what is kept of log i
abbrev pub kept_of : List Beginning → ℕ → Beginning
kept_of kept i = slice_index_or kept i nothing

-- how many events are kept of each
abbrev pub events_kept : List Beginning → List ℕ
events_kept kept = map (λ b. b.events) kept

abbrev pub total_kept : List Beginning → ℕ
total_kept kept = sum_by (λ b. b.events) kept

-- a beginning of each log is kept
pub record AreBeginnings (logs : List Log) (kept : List Beginning) : Type 0 where
  pub places : length kept ≡ length logs
  pub each : (i : ℕ) → i < length logs → IsBeginning (log_of logs i) (kept_of kept i)

-- each consistent beginning is at most what is kept
abbrev pub BoundsAll : List Log → List Beginning → Type 0
BoundsAll logs kept =
    (cut : List ℕ) → IsConsistentBeginning logs cut → (i : ℕ) → i < length logs
    → slice_index cut i ≤ (kept_of kept i).events

-- each receipt of link i that is kept has a sending that is kept
abbrev pub HasSendings : List Beginning → ℕ → Type 0
HasSendings kept i = (kept_of kept (next (length kept) i)).receipts ≤ (kept_of kept i).sendings

-- what is kept was shortened so that this link has its sendings, if it hadn't
pub record IsSettled (logs : List Log) (link : ℕ) (old new : List Beginning) (shorter : Bool) : Type 0 where
  pub kept : AreBeginnings logs new
  pub bounds : BoundsAll logs old → BoundsAll logs new
  pub here : HasSendings new link
  pub others : (i : ℕ) → i < length logs → i ≢ next (length logs) link → HasSendings old i → HasSendings new i
  pub fell : shorter ≡ true → total_kept new < total_kept old
  pub stayed : shorter ≡ false → new ≡ old
