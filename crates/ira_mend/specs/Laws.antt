-- Laws of consistent beginnings, and of what mending keeps of logs that were cut off.
use Rattle.std.specs.Prelude.{◌≡◌, ◌≢◌, ◌≤◌, ◌↔◌, ◌++◌, ℕ, Bool, List, [], Some, length, slice_get, slice_index}
use Rattle.std.specs.List.{AllZip}
use Rattle.ira_event.specs.declared.log_head.LogHead.{LogHead}
use Rattle.ira_event.specs.Log.{Log}
use Rattle.ira_event.specs.LogText.{log_text}
use Rattle.ira_event.specs.LogTextFault.{BeginsWithHead}
use Rattle.ira_event.specs.Logs.{AreLogs}
use Rattle.ira_order.specs.Circle.{HasOrder}
use Rattle.ira_order.specs.Cut.{IsConsistentCut, IsJoin, IsMeet}
use Rattle.ira_order.specs.declared.match_fault.MatchFault.{MatchFault}
use Rattle.ira_order.specs.Matching.{Matches}
use Rattle.ira_order.specs.Ring.{log_of}
use Rattle.ira_order.specs.Run.{AreLocalRuns}
use Rattle.ira_order.specs.VectorClock.{AtOrBefore}
use Rattle.ira_audit.specs.declared.answer.Answer.TheVariants.{Yes}
use Rattle.ira_audit.specs.declared.reason.Reason.{Reason}
use Rattle.ira_audit.specs.RingAnswer.{IsRingAnswer}
use Rattle.ira_audit.specs.LogTexts.{AreLogTexts}
use Rattle.ira_mend.specs.Beginning.{IsConsistentBeginning, IsGreatestBeginning, begun}
use Rattle.ira_mend.specs.Mended.{HasDifference, IsGreatestOf}
use Rattle.ira_mend.specs.RecordedLogs.{AreLeftTexts, IsRecordedReason}

-- the join of two consistent beginnings is one
abbrev pub JoinsAreBeginnings : Type 0
JoinsAreBeginnings =
    (logs : List Log) (a b cut : List ℕ) → IsConsistentBeginning logs a → IsConsistentBeginning logs b
    → IsJoin logs a b cut → IsConsistentBeginning logs cut

-- and so is their meet
abbrev pub MeetsAreBeginnings : Type 0
MeetsAreBeginnings =
    (logs : List Log) (a b cut : List ℕ) → IsConsistentBeginning logs a → IsConsistentBeginning logs b
    → IsMeet logs a b cut → IsConsistentBeginning logs cut

-- any logs have a greatest one
abbrev pub LogsHaveAGreatestBeginning : Type 0
LogsHaveAGreatestBeginning = (logs : List Log) → (cut : List ℕ) × IsGreatestBeginning logs cut

-- In what follows `whole` are logs, and `left` is what a crash left of them: a beginning of each.

-- a log's first n events; the start is the log's where there are any, and may be another where there are none
pub record IsLeft (log : Log) (n : ℕ) (rest : Log) : Type 0 where
  pub begun_is : rest ≡ record (begun log n) { initiator = rest.initiator }
  pub start : rest.events ≢ [] → rest.initiator ≡ log.initiator

-- of each log as many events as the cut holds
pub record AreLeft (whole : List Log) (cut : List ℕ) (left : List Log) : Type 0 where
  pub places : length left ≡ length whole
  pub each : (i : ℕ) (log : Log) → slice_get whole i ≡ Some log
      → (rest : Log) × (slice_get left i ≡ Some rest) × IsLeft log (slice_index cut i) rest

-- event a of node i is left, and so is each event that happened before it
abbrev pub HasItsPast : List Log → List Log → ℕ → ℕ → Type 0
HasItsPast whole left i a = (j b : ℕ) → AtOrBefore whole j b i a → b ≤ length (log_of left j)

-- where the whole logs match, mending keeps an event just where it is left with all that happened before it
abbrev pub MendingKeepsWholePasts : Type 0
MendingKeepsWholePasts =
    (whole left mended : List Log) (cut : List ℕ) → Matches whole → AreLeft whole cut left → IsGreatestOf left mended
    → (i a : ℕ) → (a ≤ length (log_of mended i)) ↔ HasItsPast whole left i a

-- so it gives up nothing where what is left is a consistent cut
abbrev pub ConsistentCutsAreKept : Type 0
ConsistentCutsAreKept =
    (whole left mended : List Log) (cut : List ℕ) → Matches whole → IsConsistentCut whole cut → AreLeft whole cut left
    → IsGreatestOf left mended → mended ≡ left

-- and finds no receipt that differs from its sending
abbrev pub CutOffLogsDontDiffer : Type 0
CutOffLogsDontDiffer =
    (whole left : List Log) (cut : List ℕ) (f : MatchFault) → Matches whole → AreLeft whole cut left
    → ¬ (HasDifference left f)

-- where the whole logs are those of a ring, match, have an order and are local runs, so it is with the mended ones
abbrev pub MendedRunsAreRuns : Type 0
MendedRunsAreRuns =
    (whole left mended : List Log) (cut : List ℕ) → AreLogs whole → HasOrder whole → AreLocalRuns whole
    → AreLeft whole cut left → IsGreatestOf left mended → AreLogs mended × HasOrder mended × AreLocalRuns mended

-- and the answer of their texts is yes
abbrev pub MendedRunsGetYes : Type 0
MendedRunsGetYes =
    (whole left mended : List Log) (cut : List ℕ) (texts : List (List ℕ)) → AreLogs whole → HasOrder whole
    → AreLocalRuns whole → AreLeft whole cut left → IsGreatestOf left mended → AreLogTexts texts mended
    → IsRingAnswer texts Yes

-- What follows is said of any texts.

-- they are what is left of the logs of one list alone
abbrev pub LeftTextsAreOne : Type 0
LeftTextsAreOne =
    (guess : Bool) (texts : List (List ℕ)) (logs others : List Log) → AreLeftTexts guess texts logs
    → AreLeftTexts guess texts others → logs ≡ others

-- there is one reason against them
abbrev pub RecordedReasonsAreOne : Type 0
RecordedReasonsAreOne =
    (guess : Bool) (texts : List (List ℕ)) (r q : Reason) → IsRecordedReason guess texts r
    → IsRecordedReason guess texts q → r ≡ q

-- and none where they are what is left of the logs of a ring
abbrev pub NoReasonAgainstARing : Type 0
NoReasonAgainstARing =
    (guess : Bool) (texts : List (List ℕ)) (logs : List Log) (r : Reason) → AreLeftTexts guess texts logs → AreLogs logs
    → ¬ (IsRecordedReason guess texts r)

-- From the bytes that a crash left of a run to a yes. The text is that of the log, or some first bytes of it.
abbrev pub IsBegunText : List ℕ → Log → Type 0
IsBegunText text log = (rest : List ℕ) × (text ++ rest ≡ log_text log)

-- a text has a whole head
pub record HasWholeHead (texts : List (List ℕ)) : Type 0 where
  pub number : ℕ
  pub text : List ℕ
  pub at : slice_get texts number ≡ Some text
  pub head : LogHead
  pub rest : List ℕ
  pub begins : BeginsWithHead text head rest

-- of each of the texts of a ring's logs some first bytes are left, of one of them a whole head: they are what is left of
-- logs of a ring
abbrev pub CutTextsAreOfLogs : Type 0
CutTextsAreOfLogs =
    (guess : Bool) (whole : List Log) (texts : List (List ℕ)) → AreLogs whole → AllZip IsBegunText texts whole
    → HasWholeHead texts → (left : List Log) × AreLeftTexts guess texts left × AreLogs left

-- where the whole logs match, no receipt differs from its sending
abbrev pub CutTextsDontDiffer : Type 0
CutTextsDontDiffer =
    (guess : Bool) (whole left : List Log) (texts : List (List ℕ)) (f : MatchFault) → AreLogs whole → Matches whole
    → AllZip IsBegunText texts whole → HasWholeHead texts → AreLeftTexts guess texts left → ¬ (HasDifference left f)

-- where they are those of a run, the answer of the mended texts is yes
abbrev pub CutTextsGetYes : Type 0
CutTextsGetYes =
    (guess : Bool) (whole left mended : List Log) (texts answered : List (List ℕ)) → AreLogs whole → HasOrder whole
    → AreLocalRuns whole → AllZip IsBegunText texts whole → HasWholeHead texts → AreLeftTexts guess texts left
    → IsGreatestOf left mended → AreLogTexts answered mended → IsRingAnswer answered Yes
