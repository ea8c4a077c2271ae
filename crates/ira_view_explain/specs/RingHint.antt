-- What a hint of the ring says of the logs.
use Rattle.std.specs.Prelude.{◌≡◌, ◌≢◌, ◌⊎◌, ◌<◌, ◌+◌, ⊤, ℕ, List, [], ◌∷◌, ◌++◌, Some, length, slice_get}
use Rattle.ira_event.specs.Log.{Log}
use Rattle.ira_event.specs.declared.event.Event.{Event}
use Rattle.ira_event.specs.declared.load.Load.{Load}
use Rattle.ira_event.specs.declared.load.Load.TheVariants.{Msg as Message, Reset}
use Rattle.ira_order.specs.Matching.{got, sent}
use Rattle.ira_order.specs.Ring.{log_of, next, prev}
use Rattle.ira_replay.specs.LocalRun.{IsLocalRun}
use Rattle.ira_view_evidence.specs.LinkCause.{BeginsWith}
use Rattle.ira_view_evidence.specs.LoadDifference.{DifferAlike}
use Rattle.ira_view_evidence.specs.RingOrder.{IsRingOrder, Takes}
use Rattle.ira_view_explain.specs.declared.other_faults.OtherFaults.{OtherFaults}
use Rattle.ira_view_explain.specs.declared.other_faults.OtherFaults.TheVariants as faults
use Rattle.ira_view_explain.specs.declared.ring_hint.RingHint.{RingHint}
use Rattle.ira_view_explain.specs.declared.ring_hint.RingHint.TheVariants.{AnotherRun, EachTwice, Hole, OneRecorder, OtherOrder}
use Rattle.ira_view_explain.specs.declared.ring_hint.RingHint.TheVariants.{SameRecords, TwoRuns}

-- the receipts of a link are its sendings, one by one, as far as they go
abbrev pub Fits : List Log → ℕ → Type 0
Fits logs link = Takes (log_of logs link) (log_of logs (next (length logs) link))

-- all links fit but two
abbrev pub OthersFit : List Log → ℕ → ℕ → Type 0
OthersFit logs link other = (i : ℕ) → i < length logs → i ≢ link → i ≢ other → Fits logs i

-- which links but one don't fit: none, or one; of several nothing is said
abbrev pub AreOtherFaults : List Log → ℕ → OtherFaults → Type 0
AreOtherFaults logs link faults.None = OthersFit logs link link
AreOtherFaults logs link (faults.One other) =
    (other < length logs) × (other ≢ link) × ¬ (Fits logs other) × OthersFit logs link other
AreOtherFaults logs link faults.Several = ⊤

-- the log of a place is that of a node
abbrev pub RunsAt : List Log → ℕ → Type 0
RunsAt logs place = (log : Log) × (slice_get logs place ≡ Some log) × IsLocalRun log

-- the log of a place fits neither that of the node before it nor that of the node after it, and all others fit
pub record IsOdd (logs : List Log) (place before after : ℕ) : Type 0 where
  pub before_is : before ≡ prev (length logs) place
  pub after_is : after ≡ next (length logs) place
  pub takes_not : ¬ (Fits logs before)
  pub gives_not : ¬ (Fits logs place)
  pub others : OthersFit logs before place

-- a node may pass the one load on as the other
abbrev pub IsPassedOn : Load → Load → Type 0
IsPassedOn (Message m) (Message n) = (n.round ≡ m.round) × (n.id ≡ m.id) × (n.hop ≡ m.hop + 1)
IsPassedOn (Reset h) (Reset g) = g ≡ h + 1
IsPassedOn load other = ⊥

-- so it is, or it is the same, which went past the node
abbrev pub IsSkipped : Load → Load → Type 0
IsSkipped load passed = (load ≡ passed) ⊎ IsPassedOn load passed

-- without this sending all that was received is what was sent, one by one, as far as it goes
abbrev pub IsUnreceived : Load → List Load → List Load → Type 0
IsUnreceived load sent received = (front rest : List Load) × (sent ≡ front ++ load ∷ rest)
    × BeginsWith (front ++ rest) received

-- the same without this receipt
abbrev pub IsUnsent : Load → List Load → List Load → Type 0
IsUnsent load sent received = (front rest : List Load) × (received ≡ front ++ load ∷ rest)
    × BeginsWith sent (front ++ rest)

-- each event is there twice, one after the other
abbrev pub AreTwice : List Event → Type 0
AreTwice [] = ⊤
AreTwice (event ∷ []) = ⊥
AreTwice (event ∷ again ∷ more) = (again ≡ event) × AreTwice more

-- and there are more than two
abbrev pub HasEachTwice : List Event → Type 0
HasEachTwice events = AreTwice events × (2 < length events)

-- it is so of the logs
abbrev pub IsSo : {A : Type 0} → List Log → RingHint A → Type 0
-- in this order all links match
IsSo logs (OtherOrder order) = IsRingOrder logs order.items
-- these logs fit one another, and those, but not these with those; and each is that of a node
IsSo logs (TwoRuns first last others_first others_last) =
    (first ≡ next (length logs) others_last) × (others_first ≡ next (length logs) last) × ¬ (Fits logs last)
    × ¬ (Fits logs others_last) × OthersFit logs last others_last × ((i : ℕ) → i < length logs → RunsAt logs i)
IsSo logs (SameRecords place other) = (place ≢ other) × (log_of logs place ≡ log_of logs other)
IsSo logs (EachTwice place) = HasEachTwice (log_of logs place)
-- it differs from both neighbours in nothing else
IsSo logs (OneRecorder place before after how) = IsOdd logs place before after
    × DifferAlike how (sent (log_of logs before)) (got (log_of logs place))
    × DifferAlike how (sent (log_of logs place)) (got (log_of logs after))
-- its log lacks the receipt of the one load and its sending as the other
IsSo logs (Hole place load before passed) = (after : ℕ) × IsOdd logs place before after × IsSkipped load passed
    × IsUnreceived load (sent (log_of logs before)) (got (log_of logs place))
    × IsUnsent passed (sent (log_of logs place)) (got (log_of logs after))
IsSo logs (AnotherRun place before after) = IsOdd logs place before after × RunsAt logs place
